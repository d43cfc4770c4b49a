-- The answer of `canvas run --failures`: a line for the canvas without a failure, then one for each
-- task, in which only that task fails, and a status.
use Rattle.std.specs.Prelude.{◌≡◌, ℕ, zero, suc, Bool, List, [], ◌∷◌, ◌++◌, None}
use Rattle.canvas_task.specs.Apply.{Behaviour}
use Rattle.canvas_task.specs.Text.{Text}
use Rattle.canvas_adapt.specs.Renamed.{renamed}
use Rattle.canvas_report.specs.Failing.{any_failed}
use Rattle.canvas_semantics.specs.Evaluation.{with_states}
use Rattle.canvas_semantics.specs.Line.{Line, count_line, ends_of, tree_of}
use Rattle.canvas_semantics.specs.States.{rows_from, states}
use Rattle.canvas_semantics.specs.Tree.{Tree}
use Rattle.canvas_adapt.specs.Stubs.{stubs_behaviour}
use Rattle.canvas_answer.specs.Answers.{AnswersAll}
use Rattle.canvas_answer.specs.Asking.{Asking}
use Rattle.canvas_answer.specs.Cases.{AreAllRows, IsCaseLine, IsEvaluated, case_line}
use Rattle.canvas_answer.specs.Plans.{IsPlanOf}
use Rattle.canvas_answer.specs.Told.{report_status}
use Rattle.canvas_answer.specs.declared.answer.Answer.{Answer}
use Rattle.canvas_answer.specs.declared.evaluated.Evaluated.{Evaluated}

-- the lines of the cases in which task 1 to task n fail
module _ (its : Asking) (behaviour : Behaviour) (word : Text) (c : Tree) (shown : Line)
    (before : Evaluated) where
  abbrev pub AreCaseLines : ℕ → List Text → Type 0
  AreCaseLines zero lines = lines ≡ []
  AreCaseLines (suc n) lines =
      (front : List Text) × (line : Text) × (lines ≡ front ++ line ∷ [])
      × AreCaseLines n front × IsCaseLine its behaviour word c shown before (suc n) line

-- the lines if tasks that have no stub behave so
pub record AreFailureLines (its : Asking) (behaviour : Behaviour) (word : Text) (c : Tree)
    (lines : List Text) : Type 0 where
  pub shown : Line
  pub run : Line
  pub shows : IsPlanOf c shown
  pub runs : IsPlanOf (renamed its.renames c) run
  pub before : Evaluated
  pub told : IsEvaluated its (stubs_behaviour its.stubs behaviour) run shown before
  pub rows : List Text
  pub all : AreAllRows before shown rows
  pub cases : List Text
  pub each : AreCaseLines its behaviour word c shown before (count_line shown) cases
  pub are : lines ≡ case_line before (tree_of shown) None rows ∷ cases

-- whether the result of a canvas is a failure already
abbrev pub IsFailedAs : Behaviour → Asking → Tree → (failed : Bool) → Type 0
IsFailedAs behaviour its c failed =
    (shown : Line) × (run : Line) × IsPlanOf c shown × IsPlanOf (renamed its.renames c) run
    × (failed
    ≡ any_failed (with_states (rows_from 1 (states behaviour (tree_of run))) (ends_of shown)))

-- Nothing is left to be printed. If failures count, the status says whether the canvas fails
-- already.
abbrev pub IsFailuresDone : Behaviour → Asking → Tree → (counts : Bool) → Answer → Type 0
IsFailuresDone behaviour its c counts a =
    (failed : Bool) × IsFailedAs behaviour its c failed
    × AnswersAll [] (report_status counts failed) a
