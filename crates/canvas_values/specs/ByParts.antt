-- The definitions about a signature (Celery's, as `json.dumps(signature)` writes it) follow from
-- those about its parts, at any depth.
use Rattle.std.specs.Prelude.{◌≡◌, Bool, false, true, map, Option}
use Rattle.serde_json.specs.Data.{Data, depth}
use Rattle.canvas_semantics.specs.Tree.{Task, task}
use Rattle.canvas_values.specs.Answers.{◌or_else◌}
use Rattle.canvas_values.specs.Fields.{subtype, link, link_error, as_list}
use Rattle.canvas_values.specs.Grammar.{own_fault, primitive_of}
use Rattle.canvas_values.specs.Refusals.{first_fault, in_kwargs, fault_within, spelled_call, task_within, tree_from, tree_said}
use Rattle.canvas_values.specs.SignatureView.{tasks_of}
use Rattle.canvas_values.specs.declared.fault.SigFault.{SigFault}

-- the first fault of a signature, and of one that is a link or an error callback
abbrev pub fault_at : Bool → Data → Option SigFault
fault_at linked d = fault_within (depth d) linked d

-- the task that a signature spells
abbrev pub task_said : Data → Task
task_said d = task_within (depth d) d

-- the first fault of a signature is its own, or the first of those of its parts
abbrev pub FaultsByParts : Type 0
FaultsByParts =
    (linked : Bool) (d : Data)
    → fault_at linked d
    ≡ (own_fault linked d or_else first_fault (fault_at false)
    (in_kwargs (primitive_of (subtype d)) d)
    or_else first_fault (fault_at true) (as_list (link d)) or_else first_fault (fault_at true)
    (as_list (link_error d)))

-- a task has the links and the error callbacks that its parts spell
abbrev pub TasksByParts : Type 0
TasksByParts =
    (d : Data)
    → task_said d
    ≡ task 0 (spelled_call d) (tasks_of (map task_said (as_list (link d))))
    (tasks_of (map task_said (as_list (link_error d))))

-- a chain, a group and a chord have the elements that their parts spell
abbrev pub TreesByParts : Type 0
TreesByParts =
    (d : Data) → tree_said d ≡ tree_from (task_said d) tree_said (primitive_of (subtype d)) d
