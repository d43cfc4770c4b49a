use Rattle.std.proofs.Common.{ℕ, take, []}
use Rattle.canvas_engine.specs.steps.TurnRuns.{Given, Reached, HasReached}
use Rattle.canvas_engine.proofs.by_turns.running.run_list.Given as goal

-- the turns so far have been taken
abbrev pub invariant-loop-worker : goal.invariant-loop-worker
invariant-loop-worker g l = (most : ℕ) (es : Given) → Reached (g.T.Tasks.behaviour l.tasks) l.plan l.workers most es [] [] l.fn.turn_run
    → HasReached (g.T.Tasks.behaviour l.tasks) l.plan l.workers most es (take l.worker-index l.turns) l.turn_run
