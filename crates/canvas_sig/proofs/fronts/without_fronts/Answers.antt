use Rattle.std.proofs.Common.{[], ◌∷◌, ◌++◌, sym, ap, ◌∙◌, arith}
use Rattle.canvas_sig.specs.declared.fronts.Fronted.{Fronted}
use Rattle.canvas_sig.proofs.WithFronts.{member_of, one_more_of}
use Rattle.canvas_sig.proofs.fronts.without_fronts.Goals as goal

pub loop-one-preserved : goal.loop-one-preserved
loop-one-preserved c =
    let l = c.loop-one in
    let f : Fronted = c.one-item.result in
    let next = one_more_of c.args.fronted.now l.one-index f _ (omega (arith, c.loop-one-test.true)) (sym c.one-item.is) in
    c.in_ok-push.ensures.items ∙ ap (λ ms. ms ++ member_of f ∷ []) l.invariant ∙ sym next
