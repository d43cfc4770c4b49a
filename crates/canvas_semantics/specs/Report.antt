-- The report of a canvas as text: a line for each task with its state as Celery names it (PENDING,
-- SUCCESS, FAILURE), and the result.
use Rattle.std.specs.Prelude.{ℕ, ◌+◌, Bool, true, false, List, [], ◌∷◌, ◌++◌, Some, None, codes}
use Rattle.std.specs.Fmt.{signed_decimal}
use Rattle.canvas_task.specs.Apply.{Behaviour}
use Rattle.canvas_task.specs.Text.{Text}
use Rattle.canvas_task.specs.declared.outcome.Outcome.TheVariants.{Success, Failure}
use Rattle.canvas_task.specs.Identifiers.{task_text}
use Rattle.canvas_task.specs.Printed.{fault_text}
use Rattle.canvas_semantics.specs.Tree.{ends_in_group, Task, task, Tasks, no_tasks, and_task, Tree, one, chain, group, chord, Trees, no_trees, and_tree, numbered}
use Rattle.canvas_semantics.specs.Evaluation.{State, Rows, state_of, with_states, ends, meaning}

-- the state and the value of a task, as in its line of the report
abbrev pub state_name : State → Text
state_name None = codes "PENDING"
state_name (Some (Success n)) = codes "SUCCESS"
state_name (Some (Failure f)) = codes "FAILURE"

abbrev pub value_text : State → Text
value_text None = codes "-"
value_text (Some (Success n)) = signed_decimal n
value_text (Some (Failure f)) = fault_text f

-- each task's number and name, in file order
abbrev mutual
  pub names_of_task : Task → List (ℕ × Text)
  names_of_task (task k call links errbacks) =
      (k, call.name) ∷ names_of_tasks links ++ names_of_tasks errbacks

  pub names_of_tasks : Tasks → List (ℕ × Text)
  names_of_tasks no_tasks = []
  names_of_tasks (and_task t ts) = names_of_task t ++ names_of_tasks ts

-- the names of a whole tree
abbrev mutual
  pub names_by_number : Tree → List (ℕ × Text)
  names_by_number (one t) = names_of_task t
  names_by_number (chain ts) = all_names_by_number ts
  names_by_number (group g ms) = all_names_by_number ms
  names_by_number (chord g h b) = all_names_by_number h ++ names_by_number b

  pub all_names_by_number : Trees → List (ℕ × Text)
  all_names_by_number no_trees = []
  all_names_by_number (and_tree t ts) = names_by_number t ++ all_names_by_number ts

-- names with numbers, counted from k
abbrev pub counted_from : ℕ → List Text → List (ℕ × Text)
counted_from k [] = []
counted_from k (n ∷ ns) = (k, n) ∷ counted_from (k + 1) ns

-- <id> <name> <state> <value>
abbrev pub report_line : ℕ × Text → State → Text
report_line t s =
    task_text t.0 ++ codes " " ++ t.1 ++ codes " " ++ state_name s ++ codes " " ++ value_text s
    ++ codes "\n"

-- one line for each task
abbrev pub report_lines : List (ℕ × Text) → Rows → Text
report_lines [] rows = []
report_lines (t ∷ ts) rows = report_line t (state_of t.0 rows) ++ report_lines ts rows

-- the values, with a comma and a space between two
abbrev pub listed_values : Rows → Text
listed_values [] = []
listed_values (e ∷ []) = value_text e.1
listed_values (e ∷ es) = value_text e.1 ++ codes ", " ++ listed_values es

-- the result of a canvas, a list if it ends in a group
abbrev pub result_text : Bool → Rows → Text
result_text true es = codes "[" ++ listed_values es ++ codes "]"
result_text false es = listed_values es

-- the report of a numbered canvas and of states; a state that is missing is pending
abbrev pub report_of : Tree → Rows → Text
report_of c rows =
    report_lines (names_by_number c) rows ++ codes "result "
    ++ result_text (ends_in_group c) (with_states rows (ends c)) ++ codes "\n"

-- the report of a canvas
abbrev pub report : Behaviour → Tree → Text
report behaviour c = report_of (numbered c) (meaning behaviour c)
