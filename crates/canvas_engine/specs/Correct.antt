-- The promise of a run by turns, for any number of workers and any order of their turns: each task
-- has the state that evaluating the canvas gives, as the Canvas user guide has it. A run that ended
-- early has rows that are pending, or these.
--     AreWorkers n, AreTurns n turns         1 to 16 workers, and each turn is of one of them;
--                                            IsAsked says both
--     IsWholeRun l n turns rows              rows of a run by these turns, and then in rotation,
--                                            that went on until all workers had ended
--     IsWholeWithin l n turns most rows      the same, in at most `most` steps
--     IsWholeAgain l n turns es rows m       the same for a run with entries es of redeliveries,
--                                            of which m stores answered Again
--     IsCut l n turns steps rows             rows of a run that was stopped after `steps` steps,
--                                            with some worker that had not ended
--     IsRunFault, IsFaultWithin              why a run by turns, and one with a bound on its
--                                            steps, has no whole report
use Rattle.std.specs.Prelude.{◌≡◌, ◌≤◌, ℕ, List, All, length, Option, Some, None, IfSome}
use Rattle.canvas_task.specs.Apply.{Behaviour}
use Rattle.canvas_semantics.specs.Evaluation.{State}
use Rattle.canvas_semantics.specs.Line.{Line, tree_of}
use Rattle.canvas_semantics.specs.States.{states, EachMay}
use Rattle.canvas_runs.specs.TurnLaws.{held_rows}
use Rattle.canvas_runs.specs.Redeliveries.{Entry, RanAgain, RunEntries, agains_in}
use Rattle.canvas_runs.specs.Turns.{most_workers, IsWorker, RanWhole, RanUntil, redeliveries_in}
use Rattle.canvas_report.specs.declared.report.Report.{Report}
use Rattle.canvas_core.specs.declared.cause.Cause.TheVariants.{Memory, Stopped}
use Rattle.canvas_engine.specs.declared.by_turns.fault.RunFault.{RunFault}
use Rattle.canvas_engine.specs.declared.by_turns.fault.RunFault.TheVariants.{BadWorkers, BadTurn, Halted}

abbrev pub AreWorkers : ℕ → Type 0
AreWorkers n = IsWorker most_workers n

abbrev pub AreTurns : ℕ → List ℕ → Type 0
AreTurns n turns = All (IsWorker n) turns

-- a run takes this number of workers and these turns
abbrev pub IsAsked : ℕ → List ℕ → Type 0
IsAsked n turns = AreWorkers n × AreTurns n turns

pub record IsWholeRun (behaviour : Behaviour) (l : Line) (n : ℕ) (turns : List ℕ)
    (rows : List State) : Type 0 where
  pub run : RanWhole behaviour l n turns
  -- nothing is redelivered
  pub plain : redeliveries_in run.steps ≡ 0
  pub rows_held : rows ≡ held_rows l run.steps
  -- what evaluating the plan's tree gives
  pub are : rows ≡ states behaviour (tree_of l)

abbrev pub IsWholeWithin : (behaviour : Behaviour) → Line → ℕ → List ℕ → ℕ → List State → Type 0
IsWholeWithin behaviour l n turns most rows =
    (whole : IsWholeRun behaviour l n turns rows) × (length whole.run.steps ≤ most)

pub record IsWholeAgain (behaviour : Behaviour) (l : Line) (n : ℕ) (turns : List ℕ)
    (es : List Entry) (rows : List State) (m : ℕ) : Type 0 where
  pub run : RanAgain behaviour l n turns es
  pub rows_held : rows ≡ held_rows l run.steps
  -- what evaluating the plan's tree gives, with any redeliveries
  pub are : rows ≡ states behaviour (tree_of l)
  -- m of the run's stores answered Again, and m of the entries are of tasks that evaluation runs
  pub again : m ≡ agains_in run.steps
  pub number : RunEntries behaviour l es m

pub record IsCut (behaviour : Behaviour) (l : Line) (n : ℕ) (turns : List ℕ) (steps : ℕ)
    (rows : List State) : Type 0 where
  pub run : RanUntil behaviour l n turns steps
  pub rows_held : rows ≡ held_rows l run.steps
  pub may : EachMay rows (states behaviour (tree_of l))

abbrev pub GivesCut : (behaviour : Behaviour) → Option Report → Line → ℕ → List ℕ → ℕ → Type 0
GivesCut behaviour None l n turns steps = ⊥
GivesCut behaviour (Some report) l n turns steps = IsCut behaviour l n turns steps report.rows

-- Why a run with no bound has no whole report, if these are the states: it isn't stopped. It has no
-- rows only if memory was refused before the first publish.
abbrev pub IsRunFault : ℕ → List ℕ → List State → RunFault → Type 0
IsRunFault n turns ss BadWorkers = AreWorkers n → ⊥
IsRunFault n turns ss BadTurn = AreWorkers n × (AreTurns n turns → ⊥)
IsRunFault n turns ss (Halted Memory rows) = IsAsked n turns × IfSome rows (λ r. EachMay r.rows ss)
IsRunFault n turns ss (Halted Stopped rows) = ⊥

-- like `IsRunFault`, for a run of at most this number of steps, which is stopped there
abbrev pub IsFaultWithin : (behaviour : Behaviour) → Line → ℕ → List ℕ → ℕ → RunFault → Type 0
IsFaultWithin behaviour l n turns steps BadWorkers = AreWorkers n → ⊥
IsFaultWithin behaviour l n turns steps BadTurn = AreWorkers n × (AreTurns n turns → ⊥)
IsFaultWithin behaviour l n turns steps (Halted Memory rows) =
    IsAsked n turns × IfSome rows (λ r. EachMay r.rows (states behaviour (tree_of l)))
IsFaultWithin behaviour l n turns steps (Halted Stopped rows) =
    IsAsked n turns × GivesCut behaviour rows l n turns steps
