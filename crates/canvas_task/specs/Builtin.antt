-- The built-in tasks: those of Celery's user guide (Canvas: add, mul, xsum, log_error), Python's
-- floor division, and a number as it is.
use Rattle.std.specs.Prelude.{ℕ, zero, if◌then◌else◌, List, [], ◌∷◌, ◌++◌, Option, Some, None, Ok, Err, codes, ℤ, pos, ◌+ℤ◌, ◌*ℤ◌}
use Rattle.std.specs.Str.{bytes_eq}
use Rattle.canvas_task.specs.Text.{Text}
use Rattle.canvas_task.specs.Numbers.{floor_div, sum_of}
use Rattle.canvas_task.specs.Apply.{Answer, Meaning, Behaviour, outcome}
use Rattle.canvas_task.specs.Own.{answer_given, answer_two, one_number, one_list, one_task, two_numbers}
use Rattle.canvas_task.specs.declared.arg.Arg.{Arg}
use Rattle.canvas_task.specs.declared.builtin.ArgKind.{ArgKind}
use Rattle.canvas_task.specs.declared.builtin.ArgKind.TheVariants.{Number, Numbers, TaskId}
use Rattle.canvas_task.specs.declared.builtin.Builtin.{Builtin}
use Rattle.canvas_task.specs.declared.builtin.Builtin.TheVariants.{Add, Mul, Div, Xsum, Ident, LogError}
use Rattle.canvas_task.specs.declared.outcome.Kind.TheVariants.{ZeroDivision, NotRegistered}
use Rattle.canvas_task.specs.declared.outcome.Fault.TheVariants.{Plain}
use Rattle.canvas_task.specs.declared.outcome.Outcome.{Outcome}
use Rattle.canvas_task.specs.declared.outcome.Outcome.TheVariants.{Failure}

-- the parameters of a task by name, and its answer to them: two numbers, one number, a list of
-- numbers, or the identifier of a task
pub data Rule : Type 0 where
  of_two : Text → Text → (ℤ → ℤ → Answer) → Rule
  of_one : Text → (ℤ → Answer) → Rule
  of_list : Text → (List ℤ → Answer) → Rule
  of_id : Text → (ℕ → Answer) → Rule

-- the meaning of a task with this rule
abbrev pub meant : Rule → Meaning
meant (of_two x y answer) args named = answer_two answer (two_numbers x y args named)
meant (of_one x answer) args named = answer_given answer (one_number x args named)
meant (of_list x answer) args named = answer_given answer (one_list x args named)
meant (of_id x answer) args named = answer_given answer (one_task x args named)

-- the names of its parameters, in their order
abbrev pub names_in : Rule → List Text
names_in (of_two x y answer) = x ∷ y ∷ []
names_in (of_one x answer) = x ∷ []
names_in (of_list x answer) = x ∷ []
names_in (of_id x answer) = x ∷ []

-- the kind of their arguments
abbrev pub kind_in : Rule → ArgKind
kind_in (of_two x y answer) = Number
kind_in (of_one x answer) = Number
kind_in (of_list x answer) = Numbers
kind_in (of_id x answer) = TaskId

-- a division's exact answer
abbrev pub quotient : ℤ → ℤ → Answer
quotient x (pos zero) = Err ZeroDivision
quotient x y = Ok (floor_div x y)

-- ---- the built-in tasks

abbrev pub rule : Builtin → Rule
rule Add = of_two (codes "x") (codes "y") (λ x y. Ok (x +ℤ y))
rule Mul = of_two (codes "x") (codes "y") (λ x y. Ok (x *ℤ y))
rule Div = of_two (codes "x") (codes "y") quotient
rule Xsum = of_list (codes "numbers") (λ numbers. Ok (sum_of numbers))
rule Ident = of_one (codes "x") (λ x. Ok x)
rule LogError = of_id (codes "uuid") (λ task. Ok (pos task))

-- the name of each is `tasks.` and a word
abbrev pub word : Builtin → Text
word Add = codes "add"
word Mul = codes "mul"
word Div = codes "div"
word Xsum = codes "xsum"
word Ident = codes "ident"
word LogError = codes "log_error"

abbrev pub builtins : List Builtin
builtins = Add ∷ Mul ∷ Div ∷ Xsum ∷ Ident ∷ LogError ∷ []

abbrev pub task_name : Builtin → Text
task_name task = codes "tasks." ++ word task

abbrev pub meaning : Builtin → Meaning
meaning task = meant (rule task)

-- the names of its parameters, and the kind of their arguments
abbrev pub parameters : Builtin → List Text
parameters task = names_in (rule task)

abbrev pub taken : Builtin → ArgKind
taken task = kind_in (rule task)

-- the first task with this name or word
abbrev pub first_called : (Builtin → Text) → Text → List Builtin → Option Builtin
first_called call name [] = None
first_called call name (t ∷ ts) =
    if bytes_eq (call t) name then Some t else first_called call name ts

-- the task of a name, and the task of a word
abbrev pub builtin_named : Text → Option Builtin
builtin_named name = first_called task_name name builtins

abbrev pub builtin_of_word : Text → Option Builtin
builtin_of_word w = first_called word w builtins

-- ---- their behaviour

-- the outcome of a call of a task that may be unknown
abbrev pub answer_known : Option Builtin → List Arg → List (Text × Arg) → Outcome
answer_known None args named = Failure (Plain NotRegistered)
answer_known (Some task) args named = outcome (meaning task args named)

abbrev pub builtin_tasks : Behaviour
builtin_tasks name args named = answer_known (builtin_named name) args named
