use Rattle.std.proofs.Common.{◌≡◌, false, Some, refl, sym, ◌∙◌, subst, take, suc, ◌+◌, arith}
use Rattle.std.specs.Prelude.{slice_get}
use Rattle.std.proofs.lemmas.Option.{slice_get_read}
use Rattle.canvas_runs.specs.Redeliveries.{has}
use Rattle.canvas_engine.proofs.ByTurns.EntryPlaces.{none_more, is_first}
use Rattle.canvas_engine.proofs.by_turns.entries.first_for.Goals as goal

pub returns-then-is_for : goal.returns-then-is_for
returns-then-is_for c =
    let es = c.args.entries.now in
    let i = c.loop-index.index in
    let e = c.index-entries-index.result in
    let at : slice_get es i ≡ Some e = slice_get_read es _ i e refl c.loop-index-test.true c.index-entries-index.is in
    let first = is_first c.args.point.now.0 c.args.point.now.1 es i e at c.loop-index.invariant (sym c.is_for.ensures ∙ c.if-is_for.true) in
    (c.loop-index-test.true, first.0, first.1)

pub loop-index-preserved : goal.loop-index-preserved
loop-index-preserved c =
    let es = c.args.entries.now in
    let i = c.loop-index.index in
    let e = c.index-entries-index.result in
    let at : slice_get es i ≡ Some e = slice_get_read es _ i e refl c.loop-index-test.true c.index-entries-index.is in
    let up : suc i ≡ i + 1 = omega arith in
    subst (λ j. has c.args.point.now.0 c.args.point.now.1 (take j es) ≡ false) up
    (none_more c.args.point.now.0 c.args.point.now.1 es i e at c.loop-index.invariant (sym c.is_for.ensures ∙ c.if-is_for.false))
