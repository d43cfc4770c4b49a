use Rattle.std.proofs.Common.{ℕ, ◌++◌}
use Rattle.canvas_runs.specs.Turns.{rounds}
use Rattle.canvas_engine.specs.steps.TurnRuns.{Given, HasReached}
use Rattle.canvas_engine.proofs.by_turns.running.run_rounds.Given as goal

-- some rounds have been taken after the list
abbrev pub invariant-loop : goal.invariant-loop
invariant-loop g l = (most : ℕ) (es : Given) → HasReached (g.T.Tasks.behaviour l.tasks) l.plan l.workers most es l.turns l.fn.turn_run
    → (k : ℕ) × HasReached (g.T.Tasks.behaviour l.tasks) l.plan l.workers most es (l.turns ++ rounds l.workers k) l.turn_run

abbrev pub decreases-loop : goal.decreases-loop
decreases-loop g l = l.turn_run.steps
