use Rattle.std.proofs.lemmas.Result.{err_from_is_err_and}
use Rattle.canvas_engine.proofs.ByTurns.WholeRuns.{never_stopped}
use Rattle.canvas_engine.proofs.by_turns.running.run_turns_again.Goals as goal

pub returns-clause-ok : goal.returns-clause-ok
returns-clause-ok g c = (c.in_ok-ran.ensures.ok.0, c.in_ok-ran.ensures.ok.1.0.0)

pub returns-in_err-ran-clause-err : goal.returns-in_err-ran-clause-err
returns-in_err-ran-clause-err g c =
    let p = err_from_is_err_and c.from_residual.result c.from_residual.ensures.1 in
    rw (p.1, p.2)
    (never_stopped (g.T.Tasks.behaviour c.args.tasks.now) c.args.plan.now c.args.workers c.more_than_all-steps.result c.args.turns.now c.args.again.now
    c.in_err-ran.field-0.0 c.more_than_all-steps.ensures.value c.in_err-ran.ensures.err)
