-- The parameter that makes a call of a built-in task a TypeError, and its fault. If a call has too
-- many positional arguments, there may be none.
use Rattle.std.specs.Prelude.{Bool, true, false, if◌then◌else◌, List, [], ◌∷◌, ◌++◌, Option, Some, None, is_some, pos}
use Rattle.std.specs.List.{list_any}
use Rattle.std.specs.Str.{bytes_eq}
use Rattle.canvas_task.specs.Text.{Text}
use Rattle.canvas_task.specs.Apply.{by_name}
use Rattle.canvas_task.specs.Builtin.{parameters, taken}
use Rattle.canvas_task.specs.Identifiers.{task_named}
use Rattle.canvas_task.specs.declared.arg.Arg.{Arg}
use Rattle.canvas_task.specs.declared.arg.Arg.TheVariants as arg
use Rattle.canvas_task.specs.declared.builtin.ArgKind.{ArgKind}
use Rattle.canvas_task.specs.declared.builtin.ArgKind.TheVariants as kind
use Rattle.canvas_task.specs.declared.builtin.Builtin.{Builtin}
use Rattle.canvas_check.specs.Calls.{some_task}
use Rattle.canvas_check.specs.declared.parameter.Wrong.{Wrong}
use Rattle.canvas_check.specs.declared.parameter.Wrong.TheVariants.{NoParameter, Missing, Twice, OtherKind}
use Rattle.canvas_check.specs.declared.position.Input.{Input}
use Rattle.canvas_check.specs.declared.position.Input.TheVariants.{Nothing, Number, Numbers, Identifier}

-- the name of a parameter, and its fault
abbrev pub Blamed : Type 0
Blamed = Text × Wrong

-- whether an argument is of a kind
abbrev pub fits : ArgKind → Arg → Bool
fits kind.Number (arg.Num n) = true
fits kind.Number a = false
fits kind.Numbers (arg.List numbers) = true
fits kind.Numbers a = false
fits kind.TaskId (arg.Text uuid) = is_some (task_named uuid)
fits kind.TaskId a = false

-- the fault of a parameter, from its positional argument and its keyword argument
abbrev pub wrong_with : (Arg → Bool) → Option Arg → Option Arg → Option Wrong
wrong_with fit None None = Some Missing
wrong_with fit (Some a) (Some b) = Some Twice
wrong_with fit (Some a) None = if fit a then None else Some OtherKind
wrong_with fit None (Some b) = if fit b then None else Some OtherKind

abbrev pub or_next : Text → Option Wrong → Option Blamed → Option Blamed
or_next p None next = next
or_next p (Some wrong) next = Some (p, wrong)

-- the first of some parameters that has a fault: positional arguments go to them from the left
abbrev pub first_wrong : (Arg → Bool) → List Text → List Arg → List (Text × Arg) → Option Blamed
first_wrong fit [] args named = None
first_wrong fit (p ∷ ps) (a ∷ args) named =
    or_next p (wrong_with fit (Some a) (by_name p named)) (first_wrong fit ps args named)
first_wrong fit (p ∷ ps) [] named =
    or_next p (wrong_with fit None (by_name p named)) (first_wrong fit ps [] named)

-- the first keyword that is not a parameter
abbrev pub first_unknown : List Text → List (Text × Arg) → Option Text
first_unknown ps [] = None
first_unknown ps (e ∷ es) =
    if list_any (bytes_eq e.0) ps then first_unknown ps es else Some e.0

abbrev pub unknown_or : Option Text → Option Blamed → Option Blamed
unknown_or (Some name) other = Some (name, NoParameter)
unknown_or None other = other

-- the parameter at fault in a call with these arguments: a keyword that is not a parameter, or else
-- the first of the task's parameters that has a fault
abbrev pub at_fault : Builtin → List Arg → List (Text × Arg) → Option Blamed
at_fault task args named =
    unknown_or (first_unknown (parameters task) named)
    (first_wrong (fits (taken task)) (parameters task) args named)

-- a value of the input's kind
abbrev pub front : Input → List Arg
front Nothing = []
front Number = arg.Num (pos 0) ∷ []
front Numbers = arg.List [] ∷ []
front Identifier = arg.Text some_task ∷ []

-- the parameter at fault in a call that takes a value of a kind before its own arguments
abbrev pub blamed : Builtin → List Arg → List (Text × Arg) → Input → Option Blamed
blamed task args named i = at_fault task (front i ++ args) named
