-- The report of a run, in each form, if states and calls are those of evaluation.
use Rattle.std.specs.Prelude.{◌≡◌, ◌⊎◌, ◌&&◌, if◌then◌else◌, ℕ, Bool, List, [], map, Option, None, Some, String}
use Rattle.std.specs.declared.alloc.Global.{Global}
use Rattle.canvas_task.specs.Apply.{Behaviour}
use Rattle.canvas_task.specs.Text.{Text}
use Rattle.canvas_semantics.specs.Evaluation.{State, with_states}
use Rattle.canvas_semantics.specs.Line.{Line, tree_of, ends_of}
use Rattle.canvas_semantics.specs.States.{rows_from, states}
use Rattle.canvas_semantics.specs.Tree.{Tree}
use Rattle.canvas_ran.specs.Ran.{fates}
use Rattle.canvas_ran.specs.Seen.{seen_fates}
use Rattle.canvas_report.specs.Failing.{any_failed}
use Rattle.canvas_report.specs.Fates.{Fates, fate_at}
use Rattle.canvas_report.specs.JsonRows.{Shown, json_lines, parameter_of, rows_wire}
use Rattle.canvas_report.specs.StoredRows.{AllShow}
use Rattle.canvas_report.specs.Wording.{explained_said, stored_said}
use Rattle.canvas_report.specs.declared.report.Report.{Report}
use Rattle.canvas_report.specs.declared.row.Row.{Row}
use Rattle.canvas_report.specs.declared.row.Row.TheVariants.{Known}
use Rattle.canvas_answer.specs.Answers.{AnswersAll}
use Rattle.canvas_answer.specs.Asking.{Asking}
use Rattle.canvas_answer.specs.Blamed.{AreBlames, Blames, blames}
use Rattle.canvas_answer.specs.Raised.{AreShown, class_of, own_class}
use Rattle.canvas_answer.specs.declared.answer.Answer.{Answer}
use Rattle.canvas_answer.specs.declared.reporting.Format.{Format}
use Rattle.canvas_answer.specs.declared.reporting.Format.TheVariants.{Plain, Json, Explained}

-- the states of a run as rows
abbrev pub known_states : List State → List Row
known_states ss = map (λ s. Known s) ss

-- ---- rows as texts

-- the rows as JSON: which tasks were called, the parameters that are blamed for a TypeError, and
-- how many stores of the run answered Again
abbrev pub IsJsonOf : Fates → List (ℕ × Option (String Global)) → (again : Option ℕ) → List Row
    → Tree → Text → Type 0
IsJsonOf fates blamed again rows t text =
    (at : ℕ → Shown) × AllShow rows at
    × (text ≡ json_lines (rows_wire (fate_at fates) (parameter_of blamed) again at t))

-- the text if these parameters are at fault
abbrev pub IsToldText : Format → Fates → Blames → (again : Option ℕ) → List Row → Tree → Text
    → Type 0
IsToldText Plain fates blames again rows t text = text ≡ stored_said rows t
IsToldText Json fates blames again rows t text =
    (blamed : List (ℕ × Option (String Global))) × AreBlames blames blamed
    × IsJsonOf fates blamed again rows t text
IsToldText Explained fates blames again rows t text = text ≡ explained_said fates rows t

-- the text if it isn't known which tasks were called
abbrev pub IsUntoldText : Format → List Row → Tree → Text → Type 0
IsUntoldText Plain rows t text = text ≡ stored_said rows t
IsUntoldText Json rows t text = IsJsonOf [] [] None rows t text
IsUntoldText Explained rows t text = text ≡ explained_said [] rows t

-- the status of a report: 3 if failures count and the result of the canvas is one
abbrev pub report_status : (counts failed : Bool) → ℕ
report_status counts failed = if counts && failed then 3 else 0

-- ---- a run whose stubs may raise exceptions of any class

module _ (its : Asking) (run shown : Line) where
  -- The report of a run that ended early, if it has one; or nothing, since memory was refused. The
  -- fates of its tasks are seen from its rows.
  abbrev pub IsReportText : Format → List State → Text → Type 0
  IsReportText form ss text =
      (rows : List Row)
      × AreShown (class_of (seen_fates (rows_from 1 ss) run)
      (own_class its.stubs its.errors run)) ss rows
      × IsUntoldText form rows (tree_of shown) text

  abbrev pub IsEarlyText : Format → Option Report → Text → Type 0
  IsEarlyText form None text = text ≡ []
  IsEarlyText form (Some r) text = (text ≡ []) ⊎ IsReportText form r.rows text

  module _ (behaviour : Behaviour) where
    abbrev ss : List State
    ss = states behaviour (tree_of run)

    -- the rows of a whole run
    abbrev pub AreRows : List Row → Type 0
    AreRows rows =
        AreShown (class_of (fates behaviour run) (own_class its.stubs its.errors run)) ss rows

    abbrev pub IsTold : Format → (again : Option ℕ) → Text → Type 0
    IsTold form again text =
        (rows : List Row) × AreRows rows
        × IsToldText form (fates behaviour run) (blames its.stubs (fates behaviour run) ss run)
        again rows (tree_of shown) text

    -- that is all that was asked for, in this form; if failures count, the status says of one
    abbrev pub IsReport : Format → (counts : Bool) → (again : Option ℕ) → Answer → Type 0
    IsReport form counts again a =
        (text : Text) × IsTold form again text
        × AnswersAll text
        (report_status counts (any_failed (with_states (rows_from 1 ss) (ends_of shown)))) a
