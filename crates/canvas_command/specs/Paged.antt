-- The answer of `canvas page`: an HTML page around a block of the program's answers to other words,
-- in lines of JSON: `normal --numbers`; `run --failures`; and `turns --steps`, for some runs, each
-- after a line that says which it is.
use Rattle.std.specs.Prelude.{◌≡◌, ◌++◌, ◌&&◌, [], ℕ, Bool, true, false, List, None, codes, decimal, flat_map, if◌then◌else◌, length, nat_le}
use Rattle.canvas_task.specs.Apply.{Behaviour}
use Rattle.canvas_task.specs.Text.{Text}
use Rattle.canvas_adapt.specs.Renamed.{renamed}
use Rattle.canvas_report.specs.Page.{page_of}
use Rattle.canvas_semantics.specs.Line.{Line, count_line, tree_of}
use Rattle.canvas_semantics.specs.Tree.{Tree}
use Rattle.canvas_adapt.specs.Stubs.{stubs_behaviour}
use Rattle.canvas_answer.specs.Answers.{AnswersAll, printed_out}
use Rattle.canvas_answer.specs.Asking.{Asking}
use Rattle.canvas_answer.specs.Cases.{AreAllRows, IsEvaluated, case_line}
use Rattle.canvas_answer.specs.Normal.{numbered_line}
use Rattle.canvas_answer.specs.Plans.{IsCanvasOf, IsPlanOf}
use Rattle.canvas_answer.specs.Printing.{printed}
use Rattle.canvas_answer.specs.declared.answer.Answer.{Answer}
use Rattle.canvas_answer.specs.declared.evaluated.Evaluated.{Evaluated}
use Rattle.canvas_command.specs.Failing.{AreCaseLines}
use Rattle.canvas_command.specs.Runs.{IsSteppedOf}

-- a canvas of more tasks, or with a longer line, has no cases and runs in its page
abbrev pub is_short : Line → Bool
is_short shown =
    nat_le (count_line shown) 200 && nat_le (length (numbered_line shown)) 65536

abbrev pub cases_shown : (short : Bool) → Line → ℕ
cases_shown short shown = if short then count_line shown else 0

-- ---- runs

abbrev pub run_head : (workers : ℕ) → (again : Bool) → Text
run_head workers again =
    codes "{\"again\":" ++ (if again then codes "true" else codes "false")
    ++ codes ",\"workers\":" ++ decimal workers ++ codes "}\n"

module _ (behaviour : Behaviour) (its : Asking) (bytes : Text) where
  -- the output of `turns --steps` for a run by this number of workers that take turns from 1
  abbrev pub IsRunShown : (workers : ℕ) → (again : Bool) → Text → Type 0
  IsRunShown workers again text =
      (a : Answer) × IsSteppedOf behaviour its bytes workers [] false a
      × (text ≡ run_head workers again ++ printed_out a)

  abbrev pub AreRunsShown : (short : Bool) → Text → Type 0
  AreRunsShown false text = text ≡ []
  AreRunsShown true text =
      (one : Text) × IsRunShown 1 false one
      × ((two : Text) × IsRunShown 2 false two
      × ((again : Text) × IsRunShown 2 true again
      × ((four : Text) × IsRunShown 4 false four
      × (text ≡ one ++ two ++ again ++ four))))

-- ---- the block

-- tasks that have no stub behave so, and the tasks of the cases fail with this word
pub record IsBlock (behaviour : Behaviour) (its : Asking) (word : Text) (bytes : Text)
    (text : Text) : Type 0 where
  pub canvas : Tree
  pub reads : IsCanvasOf its.adapts bytes canvas
  pub shown : Line
  pub run : Line
  pub shows : IsPlanOf canvas shown
  pub runs : IsPlanOf (renamed its.renames canvas) run
  pub before : Evaluated
  pub told : IsEvaluated its (stubs_behaviour its.stubs behaviour) run shown before
  pub rows : List Text
  pub all : AreAllRows before shown rows
  pub cases : List Text
  pub each : AreCaseLines its behaviour word canvas shown before
      (cases_shown (is_short shown) shown) cases
  pub played : Text
  pub plays : AreRunsShown (stubs_behaviour its.stubs behaviour) its bytes (is_short shown)
      played
  pub is : text
      ≡ printed (numbered_line shown)
      ++ printed (case_line before (tree_of shown) None rows)
      ++ (played ++ flat_map printed cases)

abbrev pub IsPaged : Behaviour → Asking → (word bytes : Text) → Answer → Type 0
IsPaged behaviour its word bytes a =
    (block : Text) × IsBlock behaviour its word bytes block × AnswersAll (page_of block) 0 a
