-- The program's answer to a request for a run.
use Rattle.std.specs.Prelude.{◌⊎◌, ℕ, Bool, true, false, List, map, Option, None, Some}
use Rattle.canvas_task.specs.Apply.{Behaviour}
use Rattle.canvas_task.specs.Text.{Text}
use Rattle.canvas_semantics.specs.Line.{Line, tree_of, ends_of}
use Rattle.canvas_semantics.specs.Evaluation.{State, with_states}
use Rattle.canvas_semantics.specs.States.{rows_from, states}
use Rattle.canvas_ran.specs.Ran.{fates}
use Rattle.canvas_answer.specs.Answers.{AnswersAll, AnswersPart}
use Rattle.canvas_answer.specs.Asking.{Asking}
use Rattle.canvas_answer.specs.Pictured.{IsPictured}
use Rattle.canvas_answer.specs.Plans.{ArePlansOf}
use Rattle.canvas_answer.specs.Told.{AreRows, IsEarlyText, IsReport, report_status}
use Rattle.canvas_answer.specs.declared.answer.Answer.{Answer}
use Rattle.canvas_answer.specs.declared.refusal.Refusal.{Refusal}
use Rattle.canvas_answer.specs.declared.refusal.Refusal.TheVariants as refusal
use Rattle.canvas_answer.specs.declared.reporting.Format.{Format}
use Rattle.canvas_core.specs.declared.cause.Cause.TheVariants.{Memory, Stopped}
use Rattle.canvas_engine.specs.declared.by_turns.fault.RunFault.{RunFault}
use Rattle.canvas_engine.specs.declared.by_turns.fault.RunFault.TheVariants.{BadWorkers, BadTurn, Halted}
use Rattle.canvas_engine.specs.Correct.{IsRunFault}
use Rattle.canvas_engine.specs.Noted.{IsStepped, step_seen}
use Rattle.canvas_engine.specs.declared.by_turns.notes.Step.{Step}
use Rattle.canvas_runs.specs.Redeliveries.{Entry}
use Rattle.canvas_engine.specs.StepLines.{none_held, steps_text}
use Rattle.canvas_report.specs.Failing.{any_failed}
use Rattle.canvas_report.specs.declared.report.Report.{Report}
use Rattle.canvas_report.specs.declared.row.Row.{Row}

-- the refusal for a run's fault, and the rows that the fault has
abbrev pub refusal_of : RunFault → Refusal
refusal_of BadWorkers = refusal.BadWorkers
refusal_of BadTurn = refusal.BadTurn
refusal_of (Halted Memory rows) = refusal.Memory
refusal_of (Halted Stopped rows) = refusal.Stopped

abbrev pub rows_in : RunFault → Option Report
rows_in BadWorkers = None
rows_in BadTurn = None
rows_in (Halted cause rows) = rows

-- the part of the report that there is for a run that ended early, with the refusal that says why
-- that isn't all
abbrev pub IsEarlyReport : Asking → (run shown : Line) → Format → RunFault → Answer → Type 0
IsEarlyReport its run shown form fault a =
    (text : Text) × AnswersPart text (refusal_of fault) a
    × IsEarlyText its run shown form (rows_in fault) text

-- The whole report of evaluating the canvas of the text, if tasks have stubs, some by their
-- numbers, and these raise exceptions of any class; or the part that there is, if `Says` is what a
-- fault of a run with these states says.
abbrev pub IsRunOf : Behaviour → Asking → Text → (List State → RunFault → Type 0) → Format
    → (counts : Bool) → (again : Option ℕ) → Answer → Type 0
IsRunOf behaviour its bytes Says form counts again a =
    (shown : Line) × (run : Line) × ArePlansOf its bytes shown run
    × (IsReport its run shown behaviour form counts again a
    ⊎ ((fault : RunFault) × Says (states behaviour (tree_of run)) fault
    × IsEarlyReport its run shown form fault a))

-- The lines of the steps of a run by these turns, and of its first messages, with entries that are
-- redelivered.
abbrev pub IsSteppedOf : Behaviour → Asking → Text → (workers : ℕ) → (turns : List ℕ)
    → (counts : Bool) → Answer → Type 0
IsSteppedOf behaviour its bytes workers turns counts a =
    (shown : Line) × (run : Line) × ArePlansOf its bytes shown run
    × ((es : List Entry) × (m : ℕ) × (steps : List Step)
    × IsStepped behaviour run workers turns es (states behaviour (tree_of run)) m
    (map step_seen steps)
    × ((rows : List Row) × AreRows its run shown behaviour rows
    × AnswersAll (steps_text run rows none_held steps) (report_status counts
    (any_failed (with_states (rows_from 1 (states behaviour (tree_of run))) (ends_of shown)))) a))

-- the answer of a run by turns: its report, or its steps if these are asked for
abbrev pub IsByTurns : Behaviour → Asking → Text → (workers : ℕ) → (turns : List ℕ)
    → (steps : Bool) → Format → (counts : Bool) → Answer → Type 0
IsByTurns behaviour its bytes workers turns false form counts a =
    (again : Option ℕ)
    × IsRunOf behaviour its bytes (IsRunFault workers turns) form counts again a
IsByTurns behaviour its bytes workers turns true form counts a =
    IsSteppedOf behaviour its bytes workers turns counts a

-- The picture of evaluating the canvas of the text.
abbrev pub IsPictureOf : Behaviour → Asking → Text → Answer → Type 0
IsPictureOf behaviour its bytes a =
    (shown : Line) × (run : Line) × ArePlansOf its bytes shown run
    × ((rows : List Row) × AreRows its run shown behaviour rows
    × IsPictured (fates behaviour run) (Some rows) shown a)
