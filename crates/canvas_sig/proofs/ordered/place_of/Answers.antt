use Rattle.std.proofs.Common.{◌∙◌, sym, ap, subst, take, arith}
use Rattle.std.specs.Ordering.{nat_cmp}
use Rattle.std.specs.Cmp.Lexicographic.{slice_cmp}
use Rattle.canvas_sig.specs.steps.Names.{AllBelow}
use Rattle.canvas_sig.proofs.Parsed.{one_more, still_below}
use Rattle.canvas_sig.proofs.ordered.place_of.Goals as goal

pub members-preserved : goal.members-preserved
members-preserved c =
    let xs = c.args.members.now in
    let i = c.members.index in
    let e = c.index-members-index.result in
    let name = c.args.name.now in
    let below = ap (λ m. slice_cmp nat_cmp m.0.now name) c.index-members-index.is ∙ sym c.order_of.ensures ∙ c.in-Less.is in
    let next = one_more xs i e _ c.members-test.true (sym c.index-members-index.is) in (
      omega (arith, c.members-test.true),
      subst (λ es. AllBelow es name) (sym next)
          (still_below (take i xs) e name c.members.invariant.1 below),
    )
