-- The behaviour of tasks: the outcome of each call, by name and arguments. Numbers are whole and
-- unbounded here; only a result that lies outside the range overflows.
use Rattle.std.specs.Prelude.{◌≡◌, true, if◌then◌else◌, List, [], ◌∷◌, Option, Some, None, Result, Ok, Err, ℤ}
use Rattle.std.specs.List.{list_all, list_any}
use Rattle.std.specs.Str.{bytes_eq}
use Rattle.canvas_task.specs.Text.{Text}
use Rattle.canvas_task.specs.Numbers.{in_range}
use Rattle.canvas_task.specs.declared.arg.Arg.{Arg}
use Rattle.canvas_task.specs.declared.outcome.Kind.{Kind}
use Rattle.canvas_task.specs.declared.outcome.Kind.TheVariants.{Overflow}
use Rattle.canvas_task.specs.declared.outcome.Fault.TheVariants.{Plain}
use Rattle.canvas_task.specs.declared.outcome.Outcome.{Outcome}
use Rattle.canvas_task.specs.declared.outcome.Outcome.TheVariants.{Success, Failure}

-- the argument given by a name
abbrev pub by_name : Text → List (Text × Arg) → Option Arg
by_name p [] = None
by_name p (e ∷ es) = if bytes_eq p e.0 then Some e.1 else by_name p es

-- one argument in front of the others, if there is one
abbrev pub first_argument : Option Arg → Option (List Arg) → Option (List Arg)
first_argument None rest = None
first_argument (Some a) None = None
first_argument (Some a) (Some rest) = Some (a ∷ rest)

-- one of two, if exactly one is there: a parameter given twice has no argument
abbrev pub either : Option Arg → Option Arg → Option Arg
either (Some a) None = Some a
either (Some a) (Some b) = None
either None b = b

-- an argument for each parameter: positional ones fill them from the left, the others are given by
-- name
abbrev pub filled : List Text → List Arg → List (Text × Arg) → Option (List Arg)
filled [] [] named = Some []
filled [] (a ∷ args) named = None
filled (p ∷ ps) (a ∷ args) named =
    first_argument (either (Some a) (by_name p named)) (filled ps args named)
filled (p ∷ ps) [] named = first_argument (either None (by_name p named)) (filled ps [] named)

-- the arguments for the parameters, if each keyword is one of them
abbrev pub bound_to : List Text → List Arg → List (Text × Arg) → Option (List Arg)
bound_to ps args named =
    if list_all (λ e. list_any (bytes_eq e.0) ps) named then filled ps args named else None

-- a task's answer to a call: a number or an exception
abbrev pub Answer : Type 0
Answer = Result ℤ Kind

-- the meaning of a task: its answer to its positional and its keyword arguments
abbrev pub Meaning : Type 0
Meaning = List Arg → List (Text × Arg) → Answer

-- a number as an answer, if it is in range
abbrev pub checked : ℤ → Answer
checked n = if in_range n then Ok n else Err Overflow

-- ---- registries

-- the outcome of a task with this answer: a number that is out of range overflows
abbrev pub outcome : Answer → Outcome
outcome (Ok n) = if in_range n then Success n else Failure (Plain Overflow)
outcome (Err kind) = Failure (Plain kind)

-- a behaviour of tasks: the outcome of a call, by the task's name, its positional arguments and its
-- keyword arguments; evaluation, runs and their laws have it as a parameter
abbrev pub Behaviour : Type 0
Behaviour = Text → List Arg → List (Text × Arg) → Outcome

-- a success has a number in range
abbrev pub IsInRange : Outcome → Type 0
IsInRange (Success n) = in_range n ≡ true
IsInRange (Failure f) = Unit {0}

-- each call's answer is in range
abbrev pub AnswersInRange : Behaviour → Type 0
AnswersInRange behaviour =
    (name : Text) (args : List Arg) (named : List (Text × Arg))
    → IsInRange (behaviour name args named)
