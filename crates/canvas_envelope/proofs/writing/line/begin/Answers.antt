use Rattle.std.proofs.Common.{◌≡◌, ◌∙◌, arith, [], ◌∷◌, ◌++◌, ap, ap₂, subst, sym, refl}
use Rattle.std.specs.Str.{IsUtf8}
use Rattle.json.specs.Print.{print}
use Rattle.canvas_rewrite.specs.FrozenView.{p_line_view}
use Rattle.canvas_rewrite.specs.declared.frozen.FrozenLine.{out-FrozenLine}
use Rattle.canvas_envelope.specs.steps.Tokens.{tail_tokens}
use Rattle.canvas_envelope.proofs.Written.Listing.{begun_none, begun_some, no_tail_by, a_tail_by}
use Rattle.canvas_envelope.proofs.writing.line.begin.Goals.{then-is_some+in_ok-push, else-is_some}
use Rattle.canvas_envelope.proofs.writing.line.begin.Goals as goal

pub returns : goal.returns
returns c =
    let l = p_line_view c.args.line.now in
    let tokens : c.write_tail.new.out.tokens ≡ tail_tokens l =
    c.in_ok-write_tail.ensures.0 ∙ ap (λ ts. ts ++ tail_tokens l) c.new-out.ensures.tokens in
    let before : c.write_tail.new.out.before ≡ [] = c.in_ok-write_tail.ensures.1 ∙ c.new-out.ensures.before ∙ c.in_ok-with_capacity.ensures.items in
    let text : c.into_inner-text.result.items ≡ print (tail_tokens l) =
    c.into_inner-text.ensures.items ∙ ap₂ (λ b ts. b ++ print ts) before tokens in
    let utf8 : IsUtf8 c.into_inner-text.result.items =
    subst IsUtf8 (ap print tokens ∙ sym text) c.into_inner-text.ensures.utf8 in
    elim c.if-is_some.branch [
      | then-is_some+in_ok-push w ↦ begun_some l c.into_inner-text.result.items c.if-is_some.ends.items w.len-then-is_some.result text utf8
          (a_tail_by c.args.line.now (out-FrozenLine c.args.line.now).tail refl (sym c.is_some.ensures ∙ w.if-is_some.true))
          (omega (arith, w.len-then-is_some.ensures, c.into_inner-text.result.ok.0))
          (ap (λ v. v.items) w.ends-is ∙ w.in_ok-push.ensures.items ∙ ap (λ xs. xs ++ w.len-then-is_some.result ∷ []) c.in_ok-ends.ensures.items)
      | else-is_some w ↦ begun_none l c.into_inner-text.result.items c.if-is_some.ends.items text utf8
          (no_tail_by c.args.line.now (out-FrozenLine c.args.line.now).tail refl (sym c.is_some.ensures ∙ w.if-is_some.false))
          (ap (λ v. v.items) w.ends-is ∙ c.in_ok-ends.ensures.items)
    ]
