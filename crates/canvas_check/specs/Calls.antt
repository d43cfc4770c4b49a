-- The expected outcome of a call before its canvas runs, from its task's answers to some arguments
-- (Celery user guide, Canvas: partials, immutability).
use Rattle.std.specs.Prelude.{Bool, true, false, not, ◌&&◌, ◌||◌, if◌then◌else◌, List, [], ◌∷◌, ◌++◌, pos}
use Rattle.canvas_task.specs.Text.{Text}
use Rattle.canvas_task.specs.Apply.{Behaviour}
use Rattle.canvas_task.specs.Identifiers.{task_text}
use Rattle.canvas_task.specs.declared.arg.Arg.{Arg}
use Rattle.canvas_task.specs.declared.arg.Arg.TheVariants as arg
use Rattle.canvas_task.specs.declared.outcome.Fault.TheVariants.{Plain}
use Rattle.canvas_task.specs.declared.outcome.Kind.TheVariants.{BadCall, NotRegistered}
use Rattle.canvas_task.specs.declared.outcome.Outcome.{Outcome}
use Rattle.canvas_task.specs.declared.outcome.Outcome.TheVariants.{Failure}
use Rattle.canvas_semantics.specs.Tree.{Call}
use Rattle.canvas_check.specs.declared.forecast.Expected.{Expected}
use Rattle.canvas_check.specs.declared.forecast.Expected.TheVariants.{Answer, Unknown, TypeError}
use Rattle.canvas_check.specs.declared.position.Input.{Input}
use Rattle.canvas_check.specs.declared.position.Input.TheVariants.{Nothing, Number, Numbers, Identifier}

abbrev pub is_type_error : Outcome → Bool
is_type_error (Failure (Plain BadCall)) = true
is_type_error o = false

abbrev pub is_unknown_outcome : Outcome → Bool
is_unknown_outcome (Failure (Plain NotRegistered)) = true
is_unknown_outcome o = false

-- no task answers to a name: its call without arguments is NotRegistered
abbrev pub is_unknown : Behaviour → Text → Bool
is_unknown behaviour name = is_unknown_outcome (behaviour name [] [])

-- ---- whether a task accepts any arguments

abbrev pub takes : Behaviour → Text → List Arg → Bool
takes behaviour name args = not (is_type_error (behaviour name args []))

-- the identifier of the first task
abbrev pub some_task : Text
some_task = task_text 1

abbrev pub one : Arg
one = arg.Num (pos 1)

-- a task accepts none, one or two numbers, a list of numbers, or the identifier of a task
abbrev pub takes_some : Behaviour → Text → Bool
takes_some behaviour name =
    takes behaviour name [] || takes behaviour name (one ∷ [])
    || takes behaviour name (one ∷ one ∷ [])
    || takes behaviour name (arg.List (pos 1 ∷ []) ∷ [])
    || takes behaviour name (arg.Text some_task ∷ [])

-- ---- calls

-- a call is a TypeError with these arguments before its own
abbrev pub fails : Behaviour → Call → List Arg → Bool
fails behaviour call front = is_type_error (behaviour call.name (front ++ call.args) call.kwargs)

-- a call is a TypeError after each of some values of the input's kind
abbrev pub fails_behind : Behaviour → Call → Input → Bool
fails_behind behaviour call Nothing = fails behaviour call []
fails_behind behaviour call Number =
    fails behaviour call (arg.Num (pos 0) ∷ []) && fails behaviour call (one ∷ [])
fails_behind behaviour call Numbers =
    fails behaviour call (arg.List [] ∷ []) && fails behaviour call (arg.List (pos 1 ∷ []) ∷ [])
fails_behind behaviour call Identifier = fails behaviour call (arg.Text some_task ∷ [])

-- the kind of value that a call takes before its own arguments
abbrev pub taken : Call → Input → Input
taken call i = if call.immutable then Nothing else i

abbrev pub expected : Behaviour → Call → Input → Expected
expected behaviour call i =
    if is_unknown behaviour call.name then Unknown
    else (if fails_behind behaviour call (taken call i) && takes_some behaviour call.name
    then TypeError (taken call i) else Answer)
