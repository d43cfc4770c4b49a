use Rattle.std.proofs.Common.{ℕ, List}
use Rattle.canvas_runs.specs.Turns.{Step}
use Rattle.canvas_engine.specs.steps.TurnRuns.{Given, Reached, IsPartOfRound}
use Rattle.canvas_engine.proofs.by_turns.running.run_round.Given as goal

-- a part of the round has been taken
abbrev pub invariant-loop-index : goal.invariant-loop-index
invariant-loop-index g l =
    (most : ℕ) (es : Given) (us : List ℕ) (xs : List Step) → Reached (g.T.Tasks.behaviour l.tasks) l.plan l.workers most es us xs l.fn.turn_run
    → IsPartOfRound (g.T.Tasks.behaviour l.tasks) l.answered l.plan l.workers most es us xs l.index l.fn.turn_run.steps l.turn_run
