-- Tasks by their names, as a registry holds them, and the outcome of a call of one.
use Rattle.std.specs.Prelude.{◌≡◌, ◌⊎◌, ◌||◌, Bool, false, not, if◌then◌else◌, List, [], ◌∷◌, map, Option, Some, None}
use Rattle.std.specs.Str.{bytes_eq}
use Rattle.std.specs.declared.alloc.Global.{Global}
use Rattle.std.specs.declared.dyn_box.DynBox.{DynBox}
use Rattle.canvas_task.specs.Text.{Text}
use Rattle.canvas_task.specs.Name.{name_ok}
use Rattle.canvas_task.specs.Apply.{Behaviour, Meaning, outcome}
use Rattle.canvas_task.specs.Builtin.{task_name, meaning, builtin_tasks}
use Rattle.canvas_task.specs.declared.add_fault.AddFault.{AddFault}
use Rattle.canvas_task.specs.declared.add_fault.AddFault.TheVariants.{BadName, Doubled}
use Rattle.canvas_task.specs.declared.builtin.Builtin.{Builtin}
use Rattle.canvas_task.specs.declared.registry.Registry.{Registry as Boxes}
use Rattle.canvas_task.specs.declared.outcome.Kind.TheVariants.{NotRegistered}
use Rattle.canvas_task.specs.declared.outcome.Fault.TheVariants.{Plain}
use Rattle.canvas_task.specs.declared.outcome.Outcome.TheVariants.{Failure}

-- a task and its name
pub record NamedTask : Type 0 where
  pub name : Text
  pub answers : Meaning

-- the behaviour of named tasks: the first task of a name answers
abbrev pub behaviour_of : List NamedTask → Behaviour
behaviour_of [] name args named = Failure (Plain NotRegistered)
behaviour_of (t ∷ ts) name args named =
    if bytes_eq t.name name then outcome (t.answers args named) else behaviour_of ts name args named

-- whether there is a task of the name
abbrev pub has_name : Text → List NamedTask → Bool
has_name name [] = false
has_name name (t ∷ ts) = bytes_eq t.name name || has_name name ts

-- the fault for which a task of this name is not added to these, apart from allocation failures
abbrev pub fault_of : Text → List NamedTask → Option AddFault
fault_of name ts =
    if not (name_ok name) then Some BadName else (if has_name name ts then Some Doubled else None)

-- an object as a task, by its name and its answers
abbrev pub named_task : {B : Type 0} → (B → Text) → (B → Meaning) → B → NamedTask
named_task called answers b = record { name = called b; answers = answers b }

-- objects as tasks
abbrev pub named_tasks : {B : Type 0} → (B → Text) → (B → Meaning) → List B → List NamedTask
named_tasks called answers bs = map (named_task called answers) bs

-- the tasks of a registry, in the order in which they were added
abbrev pub tasks_in : {X : Type 0} {F : X → Type 0} → (DynBox X Global F → Text)
    → (DynBox X Global F → Meaning) → Boxes X F → List NamedTask
tasks_in called answers r = named_tasks called answers r.tasks.items

-- ---- the built-in ones

abbrev pub as_named : Builtin → NamedTask
as_named task = record { name = task_name task; answers = meaning task }

-- all are built-in
abbrev pub AreBuiltin : List NamedTask → Type 0
AreBuiltin [] = Unit {0}
AreBuiltin (t ∷ ts) = ((task : Builtin) × (t ≡ as_named task)) × AreBuiltin ts

abbrev pub IsAmong : NamedTask → List NamedTask → Type 0
IsAmong t [] = ⊥
IsAmong t (u ∷ us) = (u ≡ t) ⊎ IsAmong t us

-- exactly the built-in ones, in any order
abbrev pub AreTheBuiltin : List NamedTask → Type 0
AreTheBuiltin ts = AreBuiltin ts × ((task : Builtin) → IsAmong (as_named task) ts)

-- exactly the built-in tasks, in any order, behave as `builtin_tasks`
abbrev pub BuiltinAnswer : Type 0
BuiltinAnswer = (ts : List NamedTask) → AreTheBuiltin ts → behaviour_of ts ≡ builtin_tasks
