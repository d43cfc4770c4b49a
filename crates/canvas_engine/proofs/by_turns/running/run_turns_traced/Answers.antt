use Rattle.std.proofs.Common.{[], map}
use Rattle.std.proofs.lemmas.Result.{err_from_is_err_and}
use Rattle.canvas_engine.specs.Noted.{step_seen}
use Rattle.canvas_engine.proofs.ByTurns.WholeRuns.{never_stopped, traced_run}
use Rattle.canvas_engine.proofs.by_turns.running.run_turns_traced.Goals as goal

pub returns-in-Ok-clause-ok : goal.returns-in-Ok-clause-ok
returns-in-Ok-clause-ok g c = (
  c.in_ok-ran.ensures.ok.0,
  traced_run (g.T.Tasks.behaviour c.args.tasks.now) c.args.plan.now c.args.workers c.more_than_all-steps.result c.args.turns.now
      c.in_ok-ran.ran.report.rows c.in_ok-ran.ran.repeats (map step_seen c.in_ok-ran.ran.steps.items) c.in-Ok.letters.items c.in_ok-ran.ensures.ok.1
      c.in-Ok.ensures,
)

pub returns-in_err-ran-clause-err : goal.returns-in_err-ran-clause-err
returns-in_err-ran-clause-err g c =
    let p = err_from_is_err_and c.from_residual.result c.from_residual.ensures.1 in
    rw (p.1, p.2)
    (never_stopped (g.T.Tasks.behaviour c.args.tasks.now) c.args.plan.now c.args.workers c.more_than_all-steps.result c.args.turns.now []
    c.in_err-ran.field-0.0 c.more_than_all-steps.ensures.value c.in_err-ran.ensures.err)
