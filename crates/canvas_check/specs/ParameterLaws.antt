-- A call of a built-in task is a TypeError exactly if a parameter is at fault, or if it has more
-- positional arguments than the task has parameters.
use Rattle.std.specs.Prelude.{◌≡◌, Bool, ◌||◌, nat_lt, length, List, Some, is_some}
use Rattle.canvas_task.specs.Text.{Text}
use Rattle.canvas_task.specs.Apply.{outcome}
use Rattle.canvas_task.specs.Builtin.{parameters, meaning}
use Rattle.canvas_task.specs.Identifiers.{task_named, task_text}
use Rattle.canvas_task.specs.declared.arg.Arg.{Arg}
use Rattle.canvas_task.specs.declared.builtin.Builtin.{Builtin}
use Rattle.canvas_semantics.specs.Tree.{Call}
use Rattle.canvas_semantics.specs.Evaluation.{Flow, nothing, num, list, id, skip, raised, arguments}
use Rattle.canvas_check.specs.Calls.{is_type_error, taken}
use Rattle.canvas_check.specs.Parameters.{at_fault, blamed}
use Rattle.canvas_check.specs.BuiltinLaws.{kind_of}
use Rattle.canvas_check.specs.declared.position.Input.{Input}

abbrev pub has_too_many : Builtin → List Arg → Bool
has_too_many task args = nat_lt (length (parameters task)) (length args)

abbrev pub EachTypeErrorHasItsCause : Type 0
EachTypeErrorHasItsCause =
    (task : Builtin) (args : List Arg) (named : List (Text × Arg))
    → is_type_error (outcome (meaning task args named))
    ≡ (is_some (at_fault task args named) || has_too_many task args)

-- the input is not an identifier, or that of a task
abbrev pub NamesATask : Flow → Type 0
NamesATask nothing = Unit {0}
NamesATask (num n) = Unit {0}
NamesATask (list ns) = Unit {0}
NamesATask (id k) = task_named (task_text k) ≡ Some k
NamesATask (skip f) = Unit {0}
NamesATask (raised f) = Unit {0}

-- the same parameter is at fault for every input of a kind
abbrev pub BlamesTheSameWhateverComes : Type 0
BlamesTheSameWhateverComes =
    (task : Builtin) (call : Call) (i : Input) (x : Flow) → kind_of x ≡ Some i → NamesATask x
    → blamed task call.args call.kwargs (taken call i)
    ≡ at_fault task (arguments call x) call.kwargs
