use Rattle.std.proofs.Common.{[], ◌∷◌, ◌++◌, map, sym, ap, ◌∙◌, arith}
use Rattle.std.proofs.lemmas.List.{map_push}
use Rattle.canvas_sig.proofs.WithFronts.{member_of}
use Rattle.canvas_sig.proofs.Parsed.{Named, one_more}
use Rattle.canvas_sig.proofs.fronts.with_fronts.Goals as goal

pub loop-member-preserved : goal.loop-member-preserved
loop-member-preserved c =
    let l = c.loop-member in
    let xs = c.args.members.now in
    let e : Named = c.member-item.result in
    let next = one_more xs l.member-index e _ (omega (arith, c.loop-member-test.true)) (sym c.member-item.is) in
    ap (map member_of) c.in_ok-push.ensures.items ∙ map_push member_of l.fronted.items _ ∙ ap (λ ms. ms ++ e ∷ []) l.invariant ∙ sym next
