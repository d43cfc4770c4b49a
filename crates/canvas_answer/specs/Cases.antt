-- `run --failures`: a JSON line for a canvas without a failure, and one for each task, in which
-- only that task fails. A line has the result of the canvas (`canvas`), the task that fails
-- (`fails`), and rows of tasks as `run --json` shows them (`rows`): all of them, or in a case those
-- that differ.
use Rattle.std.specs.Prelude.{◌≡◌, ◌==◌, ℕ, if◌then◌else◌, List, [], ◌∷◌, ◌++◌, map, Option, Some, None, codes, decimal, string_bytes}
use Rattle.std.specs.List.{filter_map}
use Rattle.std.specs.Str.{bytes_eq}
use Rattle.canvas_task.specs.Apply.{Behaviour}
use Rattle.canvas_task.specs.Identifiers.{task_text}
use Rattle.canvas_task.specs.Text.{Text}
use Rattle.canvas_semantics.specs.Evaluation.{ends, with_states}
use Rattle.canvas_semantics.specs.Line.{Line, ends_of, tree_of}
use Rattle.canvas_semantics.specs.Report.{names_by_number}
use Rattle.canvas_semantics.specs.States.{rows_from, states}
use Rattle.canvas_semantics.specs.Tree.{Tree, ends_in_group}
use Rattle.canvas_adapt.specs.Renamed.{renamed}
use Rattle.canvas_adapt.specs.declared.renames.Rename.{Rename}
use Rattle.canvas_ran.specs.Ran.{fates}
use Rattle.canvas_report.specs.Failing.{any_failed}
use Rattle.canvas_report.specs.JsonRows.{parameter_of}
use Rattle.canvas_report.specs.RowTexts.{end_text, row_line}
use Rattle.canvas_adapt.specs.Stubs.{stubs_behaviour}
use Rattle.canvas_adapt.specs.declared.stubs.stub.Stub.{Stub}
use Rattle.canvas_answer.specs.Asking.{Asking}
use Rattle.canvas_answer.specs.Blamed.{AreBlames, blames}
use Rattle.canvas_answer.specs.Items.{joined}
use Rattle.canvas_answer.specs.Plans.{IsPlanOf}
use Rattle.canvas_answer.specs.Stubbing.{IsNumbered}
use Rattle.canvas_answer.specs.Told.{AreRows}
use Rattle.canvas_answer.specs.declared.errors.OtherError.{OtherError}
use Rattle.canvas_answer.specs.declared.evaluated.Evaluated.{Evaluated}

-- ---- the results of a canvas that is evaluated

pub record IsEvaluated (its : Asking) (behaviour : Behaviour) (run shown : Line) (e : Evaluated)
    : Type 0 where
  pub rows_are : AreRows its run shown behaviour e.rows.items
  pub fates_are : e.fates.items ≡ fates behaviour run
  pub blamed_are : AreBlames
      (blames its.stubs (fates behaviour run) (states behaviour (tree_of run)) run)
      e.blamed.items
  pub failed_is : e.failed
      ≡ any_failed (with_states (rows_from 1 (states behaviour (tree_of run))) (ends_of shown))

-- ---- as JSON

-- a line without the line feed, 10, at its end
abbrev pub without_end : Text → Text
without_end [] = []
without_end (b ∷ []) = if b == 10 then [] else b ∷ []
without_end (b ∷ bs) = b ∷ without_end bs

-- the line of a task in `run --json`, by its number and name
abbrev pub told_line : Evaluated → ℕ × Text → Text
told_line e = row_line e.fates.items (parameter_of e.blamed.items) e.rows.items

-- the line of a task without its line feed
abbrev pub row_object : Evaluated → ℕ × Text → Text
row_object e t = without_end (told_line e t)

-- the row of a task that differs from the one before, if it does
abbrev pub changed_object : (now before : Evaluated) → ℕ × Text → Option Text
changed_object now before t =
    if bytes_eq (row_object before t) (row_object now t) then None else Some (row_object now t)

abbrev pub fails_member : Option ℕ → Text
fails_member None = codes ",\"fails\":null"
fails_member (Some k) = codes ",\"fails\":\"" ++ task_text k ++ codes "\""

-- the object of a canvas's result, without its line feed
abbrev pub result_object : Evaluated → Tree → Text
result_object e c = without_end (end_text None (ends_in_group c) e.rows.items (ends c))

abbrev pub case_line : Evaluated → Tree → Option ℕ → (rows : List Text) → Text
case_line e c fails rows =
    codes "{\"canvas\":" ++ result_object e c ++ fails_member fails ++ codes ",\"rows\":["
    ++ joined rows ++ codes "]}\n"

-- ---- the canvas without a failure

-- the rows of all its tasks
abbrev pub AreAllRows : Evaluated → Line → List Text → Type 0
AreAllRows e shown rows = rows ≡ map (row_object e) (names_by_number (tree_of shown))

-- ---- a case: what `--task '#k=word'` puts before all others

abbrev pub numbered_word : ℕ → (word : Text) → Text
numbered_word k word = codes "#" ++ decimal k ++ codes "=" ++ word

pub record IsFailing (word : Text) (k : ℕ) (s : Stub) (r : Rename) (x : OtherError)
    : Type 0 where
  pub said : IsNumbered (codes "NotRegistered") (numbered_word k word) r s
  pub name : string_bytes x.name ≡ string_bytes r.name
  pub class : (class : Text) → word ≡ codes "raise:" ++ class → string_bytes x.class ≡ class

abbrev pub first_of : Stub → Rename → OtherError → Asking → Asking
first_of s r x its =
    record {
      adapts = its.adapts;
      stubs = s ∷ its.stubs;
      errors = x ∷ its.errors;
      renames = r ∷ its.renames;
    }

-- The line of the case in which task k fails with this word, for a canvas with this plan: the rows
-- that differ from those without a failure. The plan that is evaluated has the name of the stub at
-- the task.
pub record IsCaseLine (its : Asking) (behaviour : Behaviour) (word : Text) (c : Tree)
    (shown : Line) (before : Evaluated) (k : ℕ) (text : Text) : Type 0 where
  pub stub : Stub
  pub rename : Rename
  pub error : OtherError
  pub fails : IsFailing word k stub rename error
  pub run : Line
  pub runs : IsPlanOf (renamed (rename ∷ its.renames) c) run
  pub now : Evaluated
  pub told : IsEvaluated (first_of stub rename error its)
      (stubs_behaviour (stub ∷ its.stubs) behaviour) run shown now
  pub line : text
      ≡ case_line now (tree_of shown) (Some k)
      (filter_map (changed_object now before) (names_by_number (tree_of shown)))
