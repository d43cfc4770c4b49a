use Rattle.canvas_engine.proofs.ByTurns.WholeRuns.{plain_run}
use Rattle.canvas_engine.proofs.by_turns.running.run_turns.Goals as goal

pub returns-clause-ok : goal.returns-clause-ok
returns-clause-ok g c = (
  c.in_ok-report.ensures.ok.0,
  plain_run
      (g.T.Tasks.behaviour c.args.tasks.now) c.args.plan.now c.args.workers c.args.turns.now c.in_ok-report.report.rows
      c.in_ok-report._again c.in_ok-report.ensures.ok.1,
)
