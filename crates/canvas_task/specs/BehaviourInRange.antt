-- The outcome of every call is in range, for any answers of the tasks.
use Rattle.std.specs.Prelude.{◌≡◌, Bool, true, false, refl, List, [], ◌∷◌, Option, Some, None, Ok, Err, ℤ, if◌then◌else◌}
use Rattle.std.specs.Str.{bytes_eq}
use Rattle.canvas_task.specs.Numbers.{in_range}
use Rattle.canvas_task.specs.Text.{Text}
use Rattle.canvas_task.specs.Apply.{AnswersInRange, IsInRange, Answer, outcome}
use Rattle.canvas_task.specs.Builtin.{answer_known, builtin_named, meaning, builtin_tasks}
use Rattle.canvas_task.specs.Tasks.{NamedTask, behaviour_of}
use Rattle.canvas_task.specs.declared.arg.Arg.{Arg}
use Rattle.canvas_task.specs.declared.builtin.Builtin.{Builtin}
use Rattle.canvas_task.specs.declared.outcome.Fault.TheVariants.{Plain}
use Rattle.canvas_task.specs.declared.outcome.Kind.TheVariants.{Overflow}
use Rattle.canvas_task.specs.declared.outcome.Outcome.{Outcome}
use Rattle.canvas_task.specs.declared.outcome.Outcome.TheVariants.{Success, Failure}

number_fits : (n : ℤ) (b : Bool) → in_range n ≡ b
    → IsInRange (if b then Success n else Failure (Plain Overflow))
number_fits n true h = h
number_fits n false h = tt

pub outcome_fits : (a : Answer) → IsInRange (outcome a)
outcome_fits (Ok n) = number_fits n (in_range n) refl
outcome_fits (Err kind) = tt

either_fits : (b : Bool) (o p : Outcome) → IsInRange o → IsInRange p
    → IsInRange (if b then o else p)
either_fits true o p h k = h
either_fits false o p h k = k

pub behaviour_in_range : (ts : List NamedTask) → AnswersInRange (behaviour_of ts)
behaviour_in_range [] name args named = tt
behaviour_in_range (t ∷ ts) name args named =
    either_fits (bytes_eq t.name name) _ _ (outcome_fits (t.answers args named))
    (behaviour_in_range ts name args named)

known_fits : (o : Option Builtin) (args : List Arg) (named : List (Text × Arg))
    → IsInRange (answer_known o args named)
known_fits None args named = tt
known_fits (Some task) args named = outcome_fits (meaning task args named)

pub builtin_in_range : AnswersInRange builtin_tasks
builtin_in_range name args named = known_fits (builtin_named name) args named
