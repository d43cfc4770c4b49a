use Rattle.std.proofs.Common.{List, take, sym, ap, ◌∙◌, subst, arith}
use Rattle.serde_json.specs.Data.{no_members, put}
use Rattle.canvas_sig.specs.Datum.{view, members_view}
use Rattle.canvas_sig.specs.steps.Names.{AllBelow, put_all}
use Rattle.canvas_sig.proofs.Parsed.{Named, one_more, put_pushed, put_last, below_next}
use Rattle.canvas_sig.proofs.ordered.ascends.Goals as goal

pub loop-member-preserved : goal.loop-member-preserved
loop-member-preserved c =
    let l = c.loop-member in
    let xs = c.args.members.now in
    let e : Named = c.member-item.result in
    let done = take l.member-index xs in
    let next = one_more xs l.member-index e _ (omega (arith, c.loop-member-test.true)) (sym c.member-item.is) in
    let below = l.invariant.1 e.0.now (c.follows.ensures (grind arith)) in (
      ap (λ es. put_all es no_members) next ∙ put_pushed done e no_members ∙ ap (put e.0.now (view e.1)) l.invariant.0 ∙ put_last done e below
          ∙ ap (λ es. members_view es) (sym next),
      λ k low. let P : List Named → Type 0 = λ es. AllBelow es k in subst P (sym next) (below_next done e k below low),
    )
