-- The rows of a report if stubs raise exceptions of any class. In a run, NotRegistered replaces an
-- exception that isn't one of the four that the program's own tasks raise.
--     own_class   the class that the stub raises which answers a task
--     class_of    the class of a failed task's exception: its own if it was called, else that of
--                 the task that it is due to
--     AreShown    the rows of a report: a failure has the class of its task, and a ChordError that
--                 of the member that it names
use Rattle.std.specs.Prelude.{◌≡◌, ℕ, zero, suc, if◌then◌else◌, nat_lt, List, [], ◌∷◌, Option, Some, None, String, string_bytes}
use Rattle.std.specs.Str.{bytes_eq}
use Rattle.std.specs.declared.alloc.Global.{Global}
use Rattle.canvas_task.specs.Text.{Text}
use Rattle.canvas_task.specs.declared.outcome.Fault.TheVariants.{Plain, Chord}
use Rattle.canvas_task.specs.declared.outcome.Kind.TheVariants.{NotRegistered}
use Rattle.canvas_task.specs.declared.outcome.Outcome.TheVariants.{Failure}
use Rattle.canvas_task.specs.declared.outcome.Why.TheVariants as why
use Rattle.canvas_semantics.specs.Evaluation.{State, state_of}
use Rattle.canvas_semantics.specs.Line.{Line, name_of}
use Rattle.canvas_semantics.specs.States.{rows_from}
use Rattle.canvas_report.specs.Fates.{Fates, fate_at}
use Rattle.canvas_report.specs.StoredRows.{row_of}
use Rattle.canvas_report.specs.declared.fate.Fate.{Fate}
use Rattle.canvas_report.specs.declared.fate.Fate.TheVariants.{Ran, Skipped, Idle}
use Rattle.canvas_report.specs.declared.row.Row.{Row}
use Rattle.canvas_report.specs.declared.row.Row.TheVariants.{Known, Raised, Blamed}
use Rattle.canvas_adapt.specs.Stubs.{any_name, has_stub}
use Rattle.canvas_adapt.specs.declared.stubs.stub.Stub.{Stub}
use Rattle.canvas_answer.specs.declared.errors.OtherError.{OtherError}

-- ---- by name

abbrev pub class_named : List OtherError → Text → Option Text
class_named [] name = None
class_named (e ∷ es) name =
    if bytes_eq (string_bytes e.name) name then Some (string_bytes e.class)
    else class_named es name

-- the class that the stub of the name raises, or else the stub `*`
abbrev pub class_raised : List Stub → List OtherError → Text → Option Text
class_raised stubs errors name =
    class_named errors (if has_stub name stubs then name else any_name)

abbrev pub class_if_named : List Stub → List OtherError → Option Text → Option Text
class_if_named stubs errors None = None
class_if_named stubs errors (Some name) = class_raised stubs errors name

-- the class of a task of a line
abbrev pub own_class : List Stub → List OtherError → Line → ℕ → Option Text
own_class stubs errors l k = class_if_named stubs errors (name_of l k)

-- ---- by the fate of the task

-- given its own class, and those of the tasks before it
abbrev pub class_by : ℕ → Option Text → (ℕ → Option Text) → Option Fate → Option Text
class_by k own at None = None
class_by k own at (Some Ran) = own
class_by k own at (Some (Skipped d)) = if nat_lt d k then at d else None
class_by k own at (Some Idle) = None

module _ (fates : Fates) (own : ℕ → Option Text) where
  -- A task is due to one before it, so as many steps as its number are enough.
  abbrev pub class_within : ℕ → ℕ → Option Text
  class_within zero k = None
  class_within (suc n) k = class_by k (own k) (class_within n) (fate_at fates k)

  abbrev pub class_of : ℕ → Option Text
  class_of k = class_within (suc k) k

-- ---- rows

-- the state itself if the class is one of the four
abbrev pub IsRaised : Option Text → State → Row → Type 0
IsRaised None s r = r ≡ Known s
IsRaised (Some class) s r =
    (name : String Global) × (r ≡ Raised name) × (string_bytes name ≡ class)

abbrev pub IsBlamed : ℕ → Option Text → State → Row → Type 0
IsBlamed dep None s r = r ≡ Known s
IsBlamed dep (Some class) s r =
    (name : String Global) × (r ≡ Blamed dep name) × (string_bytes name ≡ class)

-- the row of task k, which has this state in the run, given the classes of all tasks
abbrev pub IsShown : (ℕ → Option Text) → ℕ → State → Row → Type 0
IsShown class k (Some (Failure (Plain NotRegistered))) r =
    IsRaised (class k) (Some (Failure (Plain NotRegistered))) r
IsShown class k (Some (Failure (Chord dep (why.Plain NotRegistered)))) r =
    IsBlamed dep (class dep) (Some (Failure (Chord dep (why.Plain NotRegistered)))) r
IsShown class k s r = r ≡ Known s

abbrev pub AreShown : (ℕ → Option Text) → List State → List Row → Type 0
AreShown class ss rows = (k : ℕ) → IsShown class k (state_of k (rows_from 1 ss)) (row_of rows k)
