-- Forecasts for calls of built-in tasks are certain: they hold for every value of the input's kind.
use Rattle.std.specs.Prelude.{◌≡◌, true, List, Option, Some, None}
use Rattle.canvas_task.specs.Text.{Text}
use Rattle.canvas_task.specs.Builtin.{builtin_tasks}
use Rattle.canvas_task.specs.declared.arg.Arg.{Arg}
use Rattle.canvas_semantics.specs.Tree.{Call}
use Rattle.canvas_semantics.specs.Evaluation.{Flow, nothing, num, list, id, skip, raised, arguments}
use Rattle.canvas_check.specs.Calls.{is_type_error, is_unknown_outcome, is_unknown, taken, fails_behind}
use Rattle.canvas_check.specs.declared.position.Input.{Input}
use Rattle.canvas_check.specs.declared.position.Input.TheVariants.{Nothing, Number, Numbers, Identifier}

-- a name that no task answers to without arguments is unknown for all arguments
abbrev pub IsUnknownToAll : Type 0
IsUnknownToAll =
    (name : Text) → is_unknown builtin_tasks name ≡ true → (args : List Arg)
    → (named : List (Text × Arg)) → is_unknown_outcome (builtin_tasks name args named) ≡ true

-- the kind of a call's input; an exception has none
abbrev pub kind_of : Flow → Option Input
kind_of nothing = Some Nothing
kind_of (num n) = Some Number
kind_of (list ns) = Some Numbers
kind_of (id k) = Some Identifier
kind_of (skip f) = None
kind_of (raised f) = None

-- a call that is a TypeError after some values of a kind is one after every value of the kind
abbrev pub FailsWhateverComes : Type 0
FailsWhateverComes =
    (call : Call) (i : Input) (x : Flow) → kind_of x ≡ Some i
    → fails_behind builtin_tasks call (taken call i) ≡ true
    → is_type_error (builtin_tasks call.name (arguments call x) call.kwargs) ≡ true
