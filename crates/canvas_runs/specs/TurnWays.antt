-- A run by turns is under way at any time, so the laws of the progress of runs hold of it.
use Rattle.std.specs.Prelude.{ℕ, List}
use Rattle.canvas_task.specs.Apply.{Behaviour}
use Rattle.canvas_semantics.specs.Line.{Line}
use Rattle.canvas_runs.specs.Progress.{UnderWay}
use Rattle.canvas_runs.specs.TurnLaws.{ByTurns, RunOf}
use Rattle.canvas_runs.specs.Turns.{Step}

abbrev pub TurnsUnderWay : Type 0
TurnsUnderWay =
    (behaviour : Behaviour) (l : Line) (n : ℕ) (us : List ℕ) (xs : List Step)
    → ByTurns behaviour l n us xs
    → (r : RunOf behaviour l n xs) × UnderWay behaviour l r.run
