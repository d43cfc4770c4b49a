use Rattle.std.proofs.Common.{◌≡◌, ◌∙◌, ◌-◌, ◌<◌, ◌∷◌, [], ◌++◌, All, length, ap, arith, subst, sym}
use Rattle.canvas_rewrite.specs.steps.NameTexts.{texts_at}
use Rattle.canvas_rewrite.proofs.NameTexts.{seen, inside_more, all_inside}
use Rattle.canvas_rewrite.proofs.name_list.NameList.push.Goals as goal

pub returns : goal.returns
returns c =
    let old = c.self.inside.texts.items in
    let new = c.keep.new.texts.items in
    let count : c.len.result ≡ length new = omega (arith, c.len.ensures, c.keep.new.texts.ok.0) in
    ap (λ ps. texts_at new ps) (c.in_ok-push.ensures.items ∙ ap (λ n. c.self.inside.places.items ++ (n - 1) ∷ []) count) ∙ seen old new c.self.inside.places.items c.args.name.now c.keep.ensures.before c.in_ok-keep.ensures.last c.self.invariant
    ∙ ap (λ ns. ns ++ c.args.name.now ∷ []) c.self.view_is

pub invariant_of-self : goal.invariant_of-self
invariant_of-self c = inside_more c.self.inside.texts.items c.keep.new.texts.items _ c.keep.ensures.before c.self.invariant

pub overflow_sub-len : goal.overflow_sub-len
overflow_sub-len c = omega (arith, c.len.ensures, c.keep.new.texts.ok.0, c.in_ok-keep.ensures.last.0)

pub invariant_of-self-in_err-push : goal.invariant_of-self-in_err-push
invariant_of-self-in_err-push c =
    subst (All (λ i. i < length c.keep.new.texts.items)) (sym c.in_err-push.ensures.items)
    (inside_more c.self.inside.texts.items c.keep.new.texts.items _ c.keep.ensures.before c.self.invariant)

pub invariant_of-self-2 : goal.invariant_of-self-2
invariant_of-self-2 c =
    let new = c.keep.new.texts.items in
    let count : c.len.result ≡ length new = omega (arith, c.len.ensures, c.keep.new.texts.ok.0) in
    subst (All (λ i. i < length new)) (sym (c.in_ok-push.ensures.items ∙ ap (λ n. c.self.inside.places.items ++ (n - 1) ∷ []) count))
    (all_inside c.self.inside.texts.items new _ c.args.name.now c.keep.ensures.before c.in_ok-keep.ensures.last c.self.invariant)
