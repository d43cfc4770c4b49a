-- What a run by turns with entries leaves, with at most `most` answered asks.
--     IsAgainWithin l n turns es most rows m    the rows of one that went on until all workers had
--                                               ended, and how many of its stores answered Again
--     IsNotedWithin .. keeps .. steps           the same, with what it noted of its steps
--     IsCutAgain l n turns es most rows         the rows of one that was stopped, with some worker
--                                               that had not ended
--     IsAgainFault                              why there is no whole report
use Rattle.std.specs.Prelude.{◌≡◌, ◌≤◌, ◌+◌, ◌++◌, ℕ, List, length, Some, None, IfSome}
use Rattle.canvas_task.specs.Apply.{Behaviour}
use Rattle.canvas_semantics.specs.Evaluation.{State}
use Rattle.canvas_semantics.specs.Line.{Line, tree_of}
use Rattle.canvas_semantics.specs.States.{states, EachMay}
use Rattle.canvas_runs.specs.Redeliveries.{Entry, ByEntries}
use Rattle.canvas_runs.specs.TurnLaws.{held_rows}
use Rattle.canvas_runs.specs.Turns.{Step, IsWorker, HasEnded, Begins, redeliveries_in}
use Rattle.canvas_core.specs.declared.cause.Cause.TheVariants.{Memory, Stopped}
use Rattle.canvas_engine.specs.Correct.{AreWorkers, AreTurns, IsAsked, IsWholeAgain}
use Rattle.canvas_engine.specs.Noted.{opening_steps}
use Rattle.canvas_engine.specs.steps.Noting.{kept}
use Rattle.canvas_engine.specs.declared.by_turns.notes.Keeps.{Keeps}
use Rattle.canvas_engine.specs.declared.by_turns.fault.RunFault.{RunFault}
use Rattle.canvas_engine.specs.declared.by_turns.fault.RunFault.TheVariants.{BadWorkers, BadTurn, Halted}

abbrev pub IsAgainWithin : (behaviour : Behaviour) → Line → ℕ → List ℕ → List Entry → ℕ → List State
    → ℕ → Type 0
IsAgainWithin behaviour l n turns es most rows m =
    (whole : IsWholeAgain behaviour l n turns es rows m)
    × (length whole.run.steps ≤ most + redeliveries_in whole.run.steps)

abbrev pub IsNotedWithin : (behaviour : Behaviour) → Line → ℕ → List ℕ → List Entry → ℕ → Keeps
    → List State → ℕ → List Step → Type 0
IsNotedWithin behaviour l n turns es most keeps rows m steps =
    (within : IsAgainWithin behaviour l n turns es most rows m)
    × (steps ≡ kept keeps (opening_steps l ++ within.0.run.steps))

pub record IsCutAgain (behaviour : Behaviour) (l : Line) (n : ℕ) (turns : List ℕ) (es : List Entry)
    (most : ℕ) (rows : List State) : Type 0 where
  pub so_far : List ℕ
  pub begin : Begins so_far turns n
  pub steps : List Step
  pub rest : List Entry
  pub by_entries : ByEntries behaviour l n es so_far steps rest
  pub many : length steps ≡ most + redeliveries_in steps
  pub going : ℕ
  pub is_worker : IsWorker n going
  pub has_more : HasEnded behaviour l steps going → ⊥
  pub rows_held : rows ≡ held_rows l steps
  pub may : EachMay rows (states behaviour (tree_of l))

abbrev pub IsAgainFault : (behaviour : Behaviour) → Line → ℕ → List ℕ → List Entry → ℕ → RunFault
    → Type 0
IsAgainFault behaviour l n turns es most BadWorkers = AreWorkers n → ⊥
IsAgainFault behaviour l n turns es most BadTurn = AreWorkers n × (AreTurns n turns → ⊥)
IsAgainFault behaviour l n turns es most (Halted Memory rows) =
    IsAsked n turns × IfSome rows (λ r. EachMay r.rows (states behaviour (tree_of l)))
IsAgainFault behaviour l n turns es most (Halted Stopped None) = ⊥
IsAgainFault behaviour l n turns es most (Halted Stopped (Some report)) =
    IsAsked n turns × IsCutAgain behaviour l n turns es most report.rows
