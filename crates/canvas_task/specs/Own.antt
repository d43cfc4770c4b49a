-- Tasks of a caller's own: their arguments, and their answers.
use Rattle.std.specs.Prelude.{ℕ, List, [], ◌∷◌, Option, Some, None, Ok, Err, ℤ}
use Rattle.canvas_task.specs.Text.{Text}
use Rattle.canvas_task.specs.Apply.{Answer, bound_to, checked}
use Rattle.canvas_task.specs.Identifiers.{task_named}
use Rattle.canvas_task.specs.declared.arg.Arg.{Arg}
use Rattle.canvas_task.specs.declared.arg.Arg.TheVariants as arg
use Rattle.canvas_task.specs.declared.outcome.Kind.TheVariants.{BadCall}

-- one argument, if it is a number
abbrev pub as_number : Option (List Arg) → Option ℤ
as_number (Some (arg.Num x ∷ [])) = Some x
as_number o = None

-- one argument, if it is a list of numbers
abbrev pub as_list : Option (List Arg) → Option (List ℤ)
as_list (Some (arg.List numbers ∷ [])) = Some numbers
as_list o = None

-- two arguments, if both are numbers
abbrev pub as_two : Option (List Arg) → Option (ℤ × ℤ)
as_two (Some (arg.Num x ∷ arg.Num y ∷ [])) = Some (x, y)
as_two o = None

-- one argument, if it is the identifier of a task
abbrev pub as_task : Option (List Arg) → Option ℕ
as_task (Some (arg.Text uuid ∷ [])) = task_named uuid
as_task o = None

-- the number for a parameter, by its name
abbrev pub one_number : Text → List Arg → List (Text × Arg) → Option ℤ
one_number x args named = as_number (bound_to (x ∷ []) args named)

-- the list for a parameter
abbrev pub one_list : Text → List Arg → List (Text × Arg) → Option (List ℤ)
one_list x args named = as_list (bound_to (x ∷ []) args named)

-- the number of the task whose identifier is given for a parameter
abbrev pub one_task : Text → List Arg → List (Text × Arg) → Option ℕ
one_task x args named = as_task (bound_to (x ∷ []) args named)

-- the numbers for two parameters
abbrev pub two_numbers : Text → Text → List Arg → List (Text × Arg) → Option (ℤ × ℤ)
two_numbers x y args named = as_two (bound_to (x ∷ y ∷ []) args named)

-- an exact answer as one in range: a number out of range overflows
abbrev pub fitted : Answer → Answer
fitted (Ok n) = checked n
fitted (Err kind) = Err kind

-- an answer to the arguments that fit; if none fit, the call is bad
abbrev pub answer_given : {A : Type 0} → (A → Answer) → Option A → Answer
answer_given f None = Err BadCall
answer_given f (Some a) = fitted (f a)

-- an answer to two numbers
abbrev pub answer_two : (ℤ → ℤ → Answer) → Option (ℤ × ℤ) → Answer
answer_two f o = answer_given (λ p. f p.0 p.1) o
