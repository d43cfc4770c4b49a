use Rattle.std.proofs.Common.{take, drop}
use Rattle.std.proofs.lemmas.List.{take-append-drop}
use Rattle.std.proofs.lemmas.Result.{err_from_is_err_and}
use Rattle.canvas_engine.proofs.ByTurns.RoundTurns.{all_taken, halt_in_list, list_more}
use Rattle.canvas_engine.proofs.by_turns.running.run_list.Goals as goal

pub turn-requires : goal.turn-requires
turn-requires g c =
    let at = c.requires.reached in
    let here = c.loop-worker.invariant at.0 at.1 at.2 in
    (c.args.workers, at.0, at.1, take c.loop-worker.worker-index c.args.turns.now, c.requires.turns c.loop-worker.worker-index 0 c.loop-worker-test.true, here)

pub returns-in_err-turn-clause-err : goal.returns-in_err-turn-clause-err
returns-in_err-turn-clause-err g c =
    let p = err_from_is_err_and c.from_residual.result c.from_residual.ensures.1 in
    rw (p.1, p.2) (λ most es reached.
    let here = c.loop-worker.invariant most es reached in
    let i = c.loop-worker.worker-index in
    halt_in_list (g.T.Tasks.behaviour c.args.tasks.now) c.args.plan.now c.args.workers most es c.args.turns.now c.in_err-turn.field-0.0
    (take i c.args.turns.now)
    (drop i c.args.turns.now) _ (take-append-drop i c.args.turns.now)
    (c.in_err-turn.ensures.err c.args.workers most es (take i c.args.turns.now) here.0 here.1))

pub loop-worker-preserved : goal.loop-worker-preserved
loop-worker-preserved g c = λ most es reached.
    list_more (g.T.Tasks.behaviour c.args.tasks.now) c.in_ok-turn.field-0 c.args.plan.now c.args.workers most es c.args.turns.now c.loop-worker.worker-index
    c.loop-worker.turn_run
    _ c.loop-worker-test.true (c.loop-worker.invariant most es reached) c.in_ok-turn.ensures.ok

pub returns-clause-ok : goal.returns-clause-ok
returns-clause-ok g c = λ most es reached.
    all_taken (g.T.Tasks.behaviour c.args.tasks.now) c.args.plan.now c.args.workers most es c.args.turns.now c.loop-worker.worker-index c.loop-worker.turn_run
    c.loop-worker-test.false (c.loop-worker.invariant most es reached)
