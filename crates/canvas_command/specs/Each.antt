-- What `canvas run --each` answers: a line for each canvas of its input, and a status.
use Rattle.std.specs.Prelude.{◌≡◌, ◌⊎◌, ◌<◌, ℕ, Bool, true, false, ◌||◌, List, [], ◌∷◌, length, map, take, IfSome, Option, flat_map, string_bytes}
use Rattle.std.specs.Io.BufRead.{drop_through}
use Rattle.std.specs.Io.KnownBytes.{Appends}
use Rattle.canvas_task.specs.Apply.{Behaviour}
use Rattle.canvas_task.specs.Text.{Text}
use Rattle.canvas_report.specs.Failing.{any_failed}
use Rattle.canvas_semantics.specs.Evaluation.{with_states}
use Rattle.canvas_semantics.specs.Line.{Line, ends_of, tree_of}
use Rattle.canvas_semantics.specs.States.{rows_from, states}
use Rattle.canvas_adapt.specs.Stubs.{stubs_behaviour}
use Rattle.canvas_adapt.specs.declared.stubs.stub.Stub.{Stub}
use Rattle.canvas_answer.specs.Answers.{AnswersAll}
use Rattle.canvas_answer.specs.Asking.{Asking, asked_of}
use Rattle.canvas_answer.specs.Items.{IsRunObject, before, most_item}
use Rattle.canvas_answer.specs.Plans.{ArePlansOf, IsNoCanvas}
use Rattle.canvas_answer.specs.Printing.{printed}
use Rattle.canvas_answer.specs.Told.{report_status}
use Rattle.canvas_answer.specs.declared.answer.Answer.{Answer}
use Rattle.canvas_answer.specs.declared.each.Each.{Each}
use Rattle.canvas_answer.specs.declared.stubs.Answers.{Answers}
use Rattle.canvas_command.specs.declared.each.Said.{Said}

-- ---- items

-- The first items of these bytes, each as far as it is kept, and the bytes that are left.
abbrev pub AreItems : (end : ℕ) → Text → List Text → (left : Text) → Type 0
AreItems end xs [] left = left ≡ xs
AreItems end xs (item ∷ items) left =
    (0 < length xs) × (item ≡ take most_item (before end xs))
    × AreItems end (drop_through end xs) items left

-- ---- lines

module _ (behaviour : Behaviour) (its : Asking) where
  -- what `run --json` prints of what evaluating these plans gives, as an object in a line, and
  -- whether the result of the canvas is a failure
  pub record IsLine (run shown : Line) (said : Said) : Type 0 where
    pub object : IsRunObject its run shown behaviour (string_bytes said.text)
    pub tells :
        said.failed
        ≡ any_failed (with_states (rows_from 1 (states behaviour (tree_of run))) (ends_of shown))

  -- the same of the canvas of a text
  abbrev pub IsRunLine : Text → Said → Type 0
  IsRunLine bytes said =
      (shown : Line) × (run : Line) × ArePlansOf its bytes shown run × IsLine run shown said

  -- Or of a text that is refused, which is no failure. Where it has nothing of what its tasks
  -- answer, and none of these gets another name for the run, it spells no canvas.
  abbrev pub IsSaid : (has_tasks : Bool) → Text → Said → Type 0
  IsSaid has_tasks bytes said =
      IsRunLine bytes said
      ⊎ ((said.failed ≡ false)
      × (has_tasks ≡ false → its.renames ≡ [] → IsNoCanvas bytes))

-- what an item of its own answers gives: the same by some answers, or a refusal of these
abbrev pub IsOwnSaid : (tasks : Behaviour) → (adapts : Bool) → Said → Type 0
IsOwnSaid tasks adapts said =
    ((answers : Answers) × (text : Text)
    × IsSaid (stubs_behaviour answers.stubs.items tasks) (asked_of adapts answers) true text said)
    ⊎ (said.failed ≡ false)

-- Without stubs tasks are called so.
module _ (tasks : Behaviour) (stubs : List Stub) (its : Asking) where
  abbrev pub IsItemSaid : (has_tasks : Bool) → Text → Said → Type 0
  IsItemSaid true item said = IsOwnSaid tasks its.adapts said
  IsItemSaid false item said = IsSaid (stubs_behaviour stubs tasks) its false item said

  abbrev pub AreSaid : (has_tasks : Bool) → (items : List Text) → List Said → Type 0
  AreSaid has_tasks [] saids = saids ≡ []
  AreSaid has_tasks (item ∷ items) [] = ⊥
  AreSaid has_tasks (item ∷ items) (said ∷ saids) =
      IsItemSaid has_tasks item said × AreSaid has_tasks items saids

abbrev pub lines_of : List Said → List Text
lines_of saids = map (λ said. string_bytes said.text) saids

-- ---- the whole

abbrev pub any_said : List Said → Bool
any_said [] = false
any_said (said ∷ saids) = said.failed || any_said saids

-- Each item of the input has a line, and these are printed in its order. Where failures count, the
-- status says whether the result of one is a failure.
pub record IsEachAnswered (tasks : Behaviour) (stubs : List Stub) (its : Asking) (each : Each)
    (input old new : Option Text) (a : Answer) : Type 0 where
  pub items : List Text
  pub are : IfSome input (λ xs. AreItems each.end xs items [])
  pub saids : List Said
  pub said : AreSaid tasks stubs its each.has_tasks items saids
  pub prints : Appends old new (flat_map printed (lines_of saids))
  pub ends : AnswersAll [] (report_status each.fails (any_said saids)) a

-- Nothing is left to be printed. Where failures count, the status may be that of one.
abbrev pub IsEachDone : (counts : Bool) → Answer → Type 0
IsEachDone counts a = AnswersAll [] 0 a ⊎ ((counts ≡ true) × AnswersAll [] 3 a)
