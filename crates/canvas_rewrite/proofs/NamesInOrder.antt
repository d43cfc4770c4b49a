-- The tasks of a plan's line, with their numbers, are its names counted from 1.
use Rattle.std.proofs.Common.{◌≡◌, ◌∙◌, ℕ, ◌+◌, List, [], ◌∷◌, ◌++◌, length, length-append, append-nil, refl, sym, ap, arith}
use Rattle.canvas_semantics.specs.Tree.{Task, task, Tasks, no_tasks, and_task, count_task, count_tasks, number_task, number_tasks}
use Rattle.canvas_semantics.specs.Line.{Line, stop, step, group_end, chord_end, Lines, no_lines, and_line, elements_of, members_of, tree_of, count_line, count_lines, line_groups, lines_groups, number_line, number_lines, task_names, tasks_names}
use Rattle.canvas_semantics.specs.Line as Frozen
use Rattle.canvas_rewrite.specs.Planned.{IsPlan}
use Rattle.canvas_task.specs.Text.{Text}
use Rattle.canvas_semantics.specs.Report.{names_of_task, names_of_tasks, names_by_number, all_names_by_number, counted_from}

counted_both : (k : ℕ) (xs ys : List Text) → counted_from k (xs ++ ys) ≡ counted_from k xs ++ counted_from (k + length xs) ys
counted_both k [] ys = ap (λ n. counted_from n ys) (omega arith)
counted_both k (x ∷ xs) ys =
    ap (λ r. (k, x) ∷ r) (counted_both (k + 1) xs ys ∙ ap (λ n. counted_from (k + 1) xs ++ counted_from n ys) (omega arith))

-- two parts, the second from the first one's end on
parts : (k n : ℕ) (xs ys : List Text) → length xs ≡ n → counted_from k xs ++ counted_from (k + n) ys ≡ counted_from k (xs ++ ys)
parts k n xs ys e = ap (λ m. counted_from k xs ++ counted_from (k + m) ys) (sym e) ∙ sym (counted_both k xs ys)

mutual
  long_task : (t : Task) → length (task_names t) ≡ count_task t
  long_task (task k call ls es) = omega (arith, length-append (tasks_names ls) (tasks_names es), long_tasks ls, long_tasks es)

  long_tasks : (ts : Tasks) → length (tasks_names ts) ≡ count_tasks ts
  long_tasks no_tasks = refl
  long_tasks (and_task t ts) = omega (arith, length-append (task_names t) (tasks_names ts), long_task t, long_tasks ts)

mutual
  long : (l : Line) → length (Frozen.names l) ≡ count_line l
  long stop = refl
  long (step t l) = omega (arith, length-append (task_names t) (Frozen.names l), long_task t, long l)
  long (group_end g ms) = long_all ms
  long (chord_end g ms b) = omega (arith, length-append (Frozen.all_names ms) (Frozen.names b), long_all ms, long b)

  long_all : (ms : Lines) → length (Frozen.all_names ms) ≡ count_lines ms
  long_all no_lines = refl
  long_all (and_line m ms) = omega (arith, length-append (Frozen.names m) (Frozen.all_names ms), long m, long_all ms)

mutual
  of_task : (t : Task) (k : ℕ) → names_of_task (number_task k t) ≡ counted_from k (task_names t)
  of_task (task _ call ls es) k =
      ap (λ r. (k, call.name) ∷ r) ((λ i. of_tasks ls (k + 1) i ++ of_tasks es (k + 1 + count_tasks ls) i)
      ∙ parts (k + 1) (count_tasks ls) (tasks_names ls) (tasks_names es) (long_tasks ls))

  of_tasks : (ts : Tasks) (k : ℕ) → names_of_tasks (number_tasks k ts) ≡ counted_from k (tasks_names ts)
  of_tasks no_tasks k = refl
  of_tasks (and_task t ts) k = (λ i. of_task t k i ++ of_tasks ts (k + count_task t) i) ∙ parts k (count_task t) (task_names t) (tasks_names ts) (long_task t)

mutual
  of_line : (l : Line) (k g : ℕ) → all_names_by_number (elements_of (number_line k g l)) ≡ counted_from k (Frozen.names l)
  of_line stop k g = refl
  of_line (step t l) k g = (λ i. of_task t k i ++ of_line l (k + count_task t) g i) ∙ parts k (count_task t) (task_names t) (Frozen.names l) (long_task t)
  of_line (group_end _ ms) k g = append-nil (all_names_by_number (members_of (number_lines k (g + 1) ms))) ∙ of_lines ms k (g + 1)
  of_line (chord_end _ ms b) k g =
      append-nil (all_names_by_number (members_of (number_lines k (g + 1) ms))
      ++ all_names_by_number (elements_of (number_line (k + count_lines ms) (g + 1 + lines_groups ms) b)))
      ∙ (λ i. of_lines ms k (g + 1) i ++ of_line b (k + count_lines ms) (g + 1 + lines_groups ms) i)
      ∙ parts k (count_lines ms) (Frozen.all_names ms) (Frozen.names b) (long_all ms)

  of_lines : (ms : Lines) (k g : ℕ) → all_names_by_number (members_of (number_lines k g ms)) ≡ counted_from k (Frozen.all_names ms)
  of_lines no_lines k g = refl
  of_lines (and_line m ms) k g =
      (λ i. of_line m k g i ++ of_lines ms (k + count_line m) (g + line_groups m) i) ∙ parts k (count_line m) (Frozen.names m) (Frozen.all_names ms) (long m)

pub plan_names : (l : Line) → IsPlan l → names_by_number (tree_of l) ≡ counted_from 1 (Frozen.names l)
plan_names l plan = sym (ap (λ n. names_by_number (tree_of n)) plan.numbered) ∙ of_line l 1 1
