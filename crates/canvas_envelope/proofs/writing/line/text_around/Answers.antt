use Rattle.std.proofs.Common.{◌≡◌, ◌∙◌, [], ◌∷◌, ◌++◌, arith, sym, ap, subst}
use Rattle.std.specs.Prelude.{map, string_bytes}
use Rattle.std.proofs.lemmas.Result.{IfOk-weaker}
use Rattle.canvas_semantics.specs.PlacedLine.{PLine}
use Rattle.canvas_rewrite.specs.FrozenView.{p_steps, p_task_view, p_line_view}
use Rattle.canvas_envelope.specs.SharedTexts.{IsLineText, IsListed, backwards, carried_bytes, core_of, elements_head, elements_own, rings_of}
use Rattle.canvas_envelope.specs.steps.Listing.{Listing, last_line}
use Rattle.canvas_envelope.proofs.Written.Listing.{begun_around, front_and_last}
use Rattle.canvas_envelope.proofs.writing.line.text_around.Goals as goal

pub share-requires : goal.share-requires
share-requires c =
    let l : PLine = p_line_view c.args.line.now in
    let t = c.args.carried.now.value in
    let begun = begun_around l (rings_of t) (core_of t) (string_bytes c.in_ok-before.before) c.in_ok-text.text.items c.push.new.self.items c.len.result
    c.requires.carries c.requires.says c.in_ok-before.ensures c.in_ok-text.ensures.text c.in_ok-text.ensures.utf8
    (omega (arith, c.len.ensures, c.in_ok-text.text.ok.0)) (c.in_ok-push.ensures.items ∙ ap (λ xs. xs ++ c.len.result ∷ []) c.in_ok-ends.ensures.items) in
    (c.in_ok-listed.ensures (string_bytes c.in_ok-before.before ++ carried_bytes t) (last_line l) begun).utf8

pub returns : goal.returns
returns c =
    let l : PLine = p_line_view c.args.line.now in
    let t = c.args.carried.now.value in
    let begun = begun_around l (rings_of t) (core_of t) (string_bytes c.in_ok-before.before) c.in_ok-text.text.items c.push.new.self.items c.len.result
    c.requires.carries c.requires.says c.in_ok-before.ensures c.in_ok-text.ensures.text c.in_ok-text.ensures.utf8
    (omega (arith, c.len.ensures, c.in_ok-text.text.ok.0)) (c.in_ok-push.ensures.items ∙ ap (λ xs. xs ++ c.len.result ∷ []) c.in_ok-ends.ensures.items) in
    let whole : p_steps (map p_task_view c.front-others.result.now) (last_line l) ≡ l =
    ap (λ ts. p_steps ts (last_line l)) c.front-others.ensures ∙ front_and_last l in
    let same : carried_bytes t ≡ carried_bytes c.in_ok-carried.carried.value = ap carried_bytes (sym c.in_ok-carried.ensures) in
    let listing = subst (λ x. Listing (string_bytes c.in_ok-before.before ++ x) c.in_ok-listed.listed.text.items c.in_ok-listed.listed.ends.items
    (p_steps (map p_task_view c.front-others.result.now) (last_line l))) same
    (c.in_ok-listed.ensures (string_bytes c.in_ok-before.before ++ carried_bytes t) (last_line l) begun) in
    IfOk-weaker c.share.result _ _
    (λ s h. subst (λ k. IsLineText s k × IsListed (elements_head s ++ elements_own s) (backwards k)) whole (h _ listing)) c.share.ensures
