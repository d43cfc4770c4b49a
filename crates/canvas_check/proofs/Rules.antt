-- Which calls of a task that answers no TypeError to what it takes are a TypeError: by the arguments for its parameters.
use Rattle.std.proofs.Common.{◌≡◌, Bool, true, false, List, Option, None, Ok, Err, ℤ, refl}
use Rattle.std.specs.Prelude.{if◌then◌else◌}
use Rattle.canvas_task.specs.Text.{Text}
use Rattle.canvas_task.specs.Numbers.{in_range}
use Rattle.canvas_task.specs.Apply.{Answer, bound_to, outcome}
use Rattle.canvas_task.specs.Own.{answer_given, answer_two, as_list, as_number, as_task, as_two, fitted}
use Rattle.canvas_task.specs.Builtin.{Rule, of_two, of_one, of_list, of_id, meant, names_in}
use Rattle.canvas_task.specs.declared.arg.Arg.{Arg}
use Rattle.canvas_task.specs.declared.outcome.Kind.TheVariants.{BadCall, ZeroDivision, Overflow, NotRegistered}
use Rattle.canvas_task.specs.declared.outcome.Fault.TheVariants.{Plain}
use Rattle.canvas_task.specs.declared.outcome.Outcome.TheVariants.{Success, Failure}
use Rattle.canvas_task.proofs.BuiltinLaw.{is_bad_call}
use Rattle.canvas_check.specs.Calls.{is_type_error}

-- ---- a number that is answered, and any other exception, is no TypeError

in_range_or_not : (b : Bool) (n : ℤ) → is_type_error (if b then Success n else Failure (Plain Overflow)) ≡ false
in_range_or_not true n = refl
in_range_or_not false n = refl

checked_or_not : (b : Bool) (n : ℤ) → is_type_error (outcome (if b then Ok n else Err Overflow)) ≡ false
checked_or_not true n = in_range_or_not (in_range n) n
checked_or_not false n = refl

pub fits_fine : (a : Answer) → is_bad_call a ≡ false → is_type_error (outcome (fitted a)) ≡ false
fits_fine (Ok n) h = checked_or_not (in_range n) n
fits_fine (Err BadCall) h = absurd cc
fits_fine (Err ZeroDivision) h = refl
fits_fine (Err Overflow) h = refl
fits_fine (Err NotRegistered) h = refl

-- ---- what is answered to the arguments for the parameters, where there may be none

abbrev pub answer_filled : Rule → Option (List Arg) → Answer
answer_filled (of_two x y answer) o = answer_two answer (as_two o)
answer_filled (of_one x answer) o = answer_given answer (as_number o)
answer_filled (of_list x answer) o = answer_given answer (as_list o)
answer_filled (of_id x answer) o = answer_given answer (as_task o)

abbrev pub bad : Rule → Option (List Arg) → Bool
bad r o = is_type_error (outcome (answer_filled r o))

pub meant_filled : (r : Rule) (args : List Arg) (named : List (Text × Arg)) → meant r args named ≡ answer_filled r (bound_to (names_in r) args named)
meant_filled (of_two x y answer) args named = refl
meant_filled (of_one x answer) args named = refl
meant_filled (of_list x answer) args named = refl
meant_filled (of_id x answer) args named = refl

pub bad_without : (r : Rule) → bad r None ≡ true
bad_without (of_two x y answer) = refl
bad_without (of_one x answer) = refl
bad_without (of_list x answer) = refl
bad_without (of_id x answer) = refl
