use Rattle.std.proofs.Common.{arith, subst}
use Rattle.std.proofs.lemmas.Result.{err_from_is_err_and}
use Rattle.canvas_engine.specs.steps.TurnRuns.{IsPartOfRound}
use Rattle.canvas_engine.proofs.ByTurns.RoundTurns.{one_more_turn, part_reached, halt_in_round}
use Rattle.canvas_engine.proofs.by_turns.running.run_round.Goals as goal

pub turn-requires : goal.turn-requires
turn-requires g c =
    let at = c.requires in
    let part = part_reached (g.T.Tasks.behaviour c.args.tasks.now) c.args.plan.now c.args.workers at.0 at.1 at.2 at.3.0 c.loop-index.answered c.loop-index.index _ c.loop-index.turn_run (c.loop-index.invariant at.0 at.1 at.2 at.3.0 at.3.1) in
    (c.args.workers, at.0, at.1, _, (omega arith, omega (arith, c.loop-index-test.true)), part)

pub returns-in_err-answered-clause-err : goal.returns-in_err-answered-clause-err
returns-in_err-answered-clause-err g c =
    let p = err_from_is_err_and c.from_residual.result c.from_residual.ensures.1 in
    rw (p.1, p.2) (λ most es us xs reached.
    let part = part_reached (g.T.Tasks.behaviour c.args.tasks.now) c.args.plan.now c.args.workers most es us xs c.loop-index.answered c.loop-index.index _ c.loop-index.turn_run (c.loop-index.invariant most es us xs reached) in
    halt_in_round (g.T.Tasks.behaviour c.args.tasks.now) c.args.plan.now c.args.workers most es us xs c.in_err-answered.field-0.0 c.loop-index.index _
    (omega (arith, c.loop-index-test.true)) (c.in_err-answered.ensures.err c.args.workers most es _ part.0 part.1))

pub loop-index-preserved : goal.loop-index-preserved
loop-index-preserved g c = λ most es us xs reached.
    one_more_turn (g.T.Tasks.behaviour c.args.tasks.now) c.args.plan.now c.args.workers most es us xs c.loop-index.answered
    c.in_ok-answered.field-0 c.loop-index.index _ c.loop-index.turn_run _ reached.count (c.loop-index.invariant most es us xs reached)
    c.in_ok-answered.ensures.ok

pub returns-clause-ok : goal.returns-clause-ok
returns-clause-ok g c = λ most es us xs reached.
    subst (λ i. IsPartOfRound
    (g.T.Tasks.behaviour c.args.tasks.now) c.loop-index.answered c.args.plan.now c.args.workers most es us xs i c.args.turn_run.now.steps c.loop-index.turn_run)
    (omega (arith, c.loop-index-test.false, c.loop-index.auto.index-end)) (c.loop-index.invariant most es us xs reached)
