-- The tasks of a canvas as lines of JSON (RFC 8259): an object for each task in the order of their
-- numbers, and one for the result. States are named as Celery names them (celery/states.py), and an
-- exception is an object as Celery's result backends store one (celery/backends/base.py,
-- `prepare_exception`). Members are in the byte order of their names.
use Rattle.std.specs.Prelude.{ℕ, pos, ◌==◌, if◌then◌else◌, Bool, true, false, List, [], ◌∷◌, ◌++◌, map, Option, Some, None, String, string_bytes, codes}
use Rattle.std.specs.Option.{option_map}
use Rattle.std.specs.declared.alloc.Global.{Global}
use Rattle.serde_json.specs.Data.{Data, null, boolean, string, array, object, Items, no_items, item, Members, no_members, member}
use Rattle.serde_json.specs.Written.{compact_text}
use Rattle.canvas_task.specs.Text.{Text}
use Rattle.canvas_task.specs.Identifiers.{task_text}
use Rattle.canvas_task.specs.Printed.{kind_name, why_name}
use Rattle.canvas_task.specs.declared.outcome.Fault.{Fault}
use Rattle.canvas_task.specs.declared.outcome.Fault.TheVariants as fault
use Rattle.canvas_task.specs.declared.outcome.Outcome.TheVariants as outcome
use Rattle.canvas_values.specs.Writing.{number_wire}
use Rattle.canvas_semantics.specs.Tree.{Tree, ends_in_group}
use Rattle.canvas_semantics.specs.Evaluation.{State, Rows, state_of, ends}
use Rattle.canvas_semantics.specs.Report.{names_by_number}
use Rattle.canvas_report.specs.Fates.{Fates, fate_at}
use Rattle.canvas_report.specs.declared.fate.Fate.{Fate}
use Rattle.canvas_report.specs.declared.fate.Fate.TheVariants.{Ran, Skipped, Idle}
use Rattle.canvas_report.specs.declared.shown.Status.{Status}
use Rattle.canvas_report.specs.declared.shown.Status.TheVariants.{Pending, Success, Failure}

-- ---- a result: a value, an exception, or null if there is none yet

-- an exception: the list of its arguments, and its type
abbrev pub exception_wire : Items → Text → Data
exception_wire arguments name =
    object (member (codes "exc_message") (array arguments)
    (member (codes "exc_type") (string name) no_members))

abbrev pub raised_wire : Text → Data
raised_wire name = exception_wire no_items name

-- the ChordError of a header in which task dep failed
abbrev pub blamed_wire : ℕ → Text → Data
blamed_wire dep name =
    exception_wire
    (item (string (codes "Dependency " ++ task_text dep ++ codes " raised " ++ name)) no_items)
    (codes "ChordError")

abbrev pub fault_wire : Fault → Data
fault_wire (fault.Plain kind) = raised_wire (kind_name kind)
fault_wire (fault.Chord dep why) = blamed_wire dep (why_name why)

abbrev pub state_wire : State → Data
state_wire None = null
state_wire (Some (outcome.Success n)) = number_wire n
state_wire (Some (outcome.Failure f)) = fault_wire f

-- ---- a status

abbrev pub status_of : State → Status
status_of None = Pending
status_of (Some (outcome.Success n)) = Success
status_of (Some (outcome.Failure f)) = Failure

abbrev pub status_name : Status → Text
status_name Pending = codes "PENDING"
status_name Success = codes "SUCCESS"
status_name Failure = codes "FAILURE"

abbrev pub worse : Status → Status → Status
worse Failure s = Failure
worse Success s = s
worse Pending Failure = Failure
worse Pending s = Pending

-- a failure if one is, else pending if one is
abbrev pub status_of_all : List Status → Status
status_of_all [] = Success
status_of_all (s ∷ ss) = worse s (status_of_all ss)

-- the status and the result of a task
pub record Shown : Type 0 where
  pub status : Status
  pub result : Data

abbrev pub shown : State → Shown
shown s = record { status = status_of s; result = state_wire s }

-- ---- the object of a task

-- left out if it isn't given
abbrev pub member_if : Text → Option Data → Members → Members
member_if k None more = more
member_if k (Some d) more = member k d more

-- the task to blame for one that failed and wasn't called
abbrev pub due_wire : Fate → Data
due_wire Ran = null
due_wire (Skipped dep) = string (task_text dep)
due_wire Idle = null

-- whether the task was called
abbrev pub ran_wire : Fate → Data
ran_wire Ran = boolean true
ran_wire (Skipped dep) = boolean false
ran_wire Idle = boolean false

-- the parameter at fault, or null
abbrev pub parameter_wire : Option Text → Data
parameter_wire None = null
parameter_wire (Some name) = string name

abbrev pub row_wire : Option Fate → Option (Option Text) → ℕ × Text → Shown → Data
row_wire fate parameter t s =
    object (member_if (codes "due_to") (option_map due_wire fate)
    (member (codes "name") (string t.1)
    (member_if (codes "parameter") (option_map parameter_wire parameter)
    (member_if (codes "ran") (option_map ran_wire fate)
    (member (codes "result") s.result
    (member (codes "status") (string (status_name s.status))
    (member (codes "task_id") (string (task_text t.0)) no_members)))))))

-- ---- the object of the canvas

abbrev pub items_wire : List Data → Items
items_wire [] = no_items
items_wire (d ∷ ds) = item d (items_wire ds)

-- the results of the tasks that a canvas ends in: a list if it ends in a group, else the only one
abbrev pub results_wire : Bool → List Data → Data
results_wire true ds = array (items_wire ds)
results_wire false [] = null
results_wire false (d ∷ ds) = d

abbrev pub identifiers_wire : List ℕ → Items
identifiers_wire [] = no_items
identifiers_wire (k ∷ ks) = item (string (task_text k)) (identifiers_wire ks)

-- how many stores answered Again
abbrev pub count_wire : ℕ → Data
count_wire n = number_wire (pos n)

-- the object of the result, with the tasks that the canvas ends in
abbrev pub end_wire : Option ℕ → Bool → List ℕ → List Shown → Data
end_wire again is_group ks es =
    object (member_if (codes "again") (option_map count_wire again)
    (member (codes "ends") (array (identifiers_wire ks))
    (member (codes "result") (results_wire is_group (map (λ e. e.result) es))
    (member (codes "status")
    (string (status_name (status_of_all (map (λ e. e.status) es)))) no_members))))

-- ---- all of them

-- The members for each task's call (`due_to`, `ran`), for the parameter at fault (`parameter`), and
-- for its state, by its number; and for the whole run, how many stores answered Again (`again`).
abbrev pub rows_wire : (ℕ → Option Fate) → (ℕ → Option (Option Text)) → (again : Option ℕ)
    → (ℕ → Shown) → Tree → List Data
rows_wire fate parameter again s c =
    map (λ t. row_wire (fate t.0) (parameter t.0) t (s t.0)) (names_by_number c)
    ++ end_wire again (ends_in_group c) (ends c) (map s (ends c)) ∷ []

-- each ends with a line feed
abbrev pub json_lines : List Data → Text
json_lines [] = []
json_lines (d ∷ ds) = compact_text d ++ codes "\n" ++ json_lines ds

-- ---- the lines of a report

-- the parameter that the first entry for the task has
abbrev pub parameter_of : List (ℕ × Option (String Global)) → ℕ → Option (Option Text)
parameter_of [] k = None
parameter_of (e ∷ es) k =
    if e.0 == k then Some (option_map (λ name. string_bytes name) e.1) else parameter_of es k

abbrev pub report_wire : Fates → List (ℕ × Option (String Global)) → (again : Option ℕ) → Tree
    → Rows → List Data
report_wire fates blamed again c rows =
    rows_wire (fate_at fates) (parameter_of blamed) again (λ k. shown (state_of k rows)) c
