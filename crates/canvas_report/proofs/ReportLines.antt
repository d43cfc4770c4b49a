-- The text of a report, and the values of its result, by the line and the value of each task.
use Rattle.std.proofs.Common.{◌≡◌, Bool, true, false, ℕ, zero, suc, List, [], ◌∷◌, ◌++◌, length, map, Option, Some, None, refl, sym, ap, ◌∙◌, append_assoc, append-nil, arith, length-append}
use Rattle.std.specs.Str.{IsUtf8, IsAscii}
use Rattle.std.proofs.lemmas.Str.{IsUtf8-from_ascii}
use Rattle.std.specs.Prelude.{codes}
use Rattle.canvas_task.specs.Text.{Text}
use Rattle.canvas_task.specs.Identifiers.{task_text}
use Rattle.canvas_task.specs.Printed.{fault_text}
use Rattle.canvas_task.specs.declared.outcome.Fault.{Fault}
use Rattle.canvas_task.specs.declared.outcome.Fault.TheVariants as fault
use Rattle.canvas_task.specs.declared.outcome.Outcome.TheVariants as outcome
use Rattle.canvas_semantics.specs.Evaluation.{Rows, State, state_of, with_states}
use Rattle.canvas_semantics.specs.Tree.{Tree, ends_in_group, Task, task, Tasks, no_tasks, and_task, count_task, count_tasks}
use Rattle.canvas_semantics.specs.Line.{Line, stop, step, group_end, chord_end, Lines, no_lines, and_line, count_line, count_lines, tree_of, ends_of, in_group, names, all_names, task_names, tasks_names}
use Rattle.canvas_semantics.specs.Evaluation.{ends}
use Rattle.canvas_semantics.specs.Report.{names_by_number as named, state_name, report_line, report_lines, value_text, listed_values, result_text, report_of}
use Rattle.canvas_semantics.specs.States.{rows_from}
use Rattle.canvas_semantics.proofs.EndLemmas.{ends_of_tree}
use Rattle.canvas_rewrite.proofs.Members.{in_group_tree}
use Rattle.canvas_report.specs.Fates.{fate_at}
use Rattle.canvas_report.specs.JsonRows.{status_of, status_name}
use Rattle.canvas_report.specs.Listing.{lines, listed, result_by, report_by}
use Rattle.canvas_report.specs.StoredRows.{row_status}
use Rattle.canvas_report.specs.Wording.{fault_said, state_said, value_said, said_at, reason, row_said, report_said}
use Rattle.canvas_report.specs.steps.ReportRows.{run_line, run_value, listed_further}
use Rattle.canvas_report.specs.declared.fate.Fate.{Fate}
use Rattle.canvas_report.specs.declared.row.Row.{Row}
use Rattle.canvas_report.specs.declared.row.Row.TheVariants as row
use Rattle.canvas_report.specs.declared.wording.Naming.TheVariants.{Identifier}
use Rattle.canvas_report.proofs.RowLines.{row_state}

-- a first value, and those after it
first_value : (f : ℕ → Text) (k : ℕ) (ks : List ℕ) → f k ++ listed_further f ks ≡ listed f (k ∷ ks)
first_value f k [] = append-nil (f k)
first_value f k (j ∷ js) =
    let all = f k ++ codes ", " in
    ap (λ x. f k ++ x) (append_assoc (codes ", ") (f j) (listed_further f js))
    ∙ sym (append_assoc (f k) (codes ", ") (f j ++ listed_further f js))
    ∙ ap (λ x. all ++ x) (first_value f j js)

pub values : (f : ℕ → Text) (k : ℕ) (behind ks : List ℕ) (before after : Text) → ks ≡ k ∷ behind → after ≡ before ++ f k
    → after ++ listed_further f behind ≡ before ++ listed f ks
values f k behind ks before after is e =
    ap (λ x. x ++ listed_further f behind) e
    ∙ append_assoc before (f k) (listed_further f behind)
    ∙ ap (λ x. before ++ x) (first_value f k behind)
    ∙ ap (λ x. before ++ listed f x) (sym is)

-- an identifier is a text
pub is_text : (bytes : Text) → IsAscii bytes → IsUtf8 bytes
is_text bytes ascii = IsUtf8-from_ascii bytes ascii

-- what was written, piece by piece
pub whole : (line : ℕ × Text → Text) (value : ℕ → Text) (l : Line) (several : Bool) (ks : List ℕ) (t0 t1 t2 t3 t4 : Text) → t0 ≡ []
    → t1 ≡ t0 ++ lines line (named (tree_of l)) → t2 ≡ t1 ++ codes "result "
    → ks ≡ ends_of l → several ≡ in_group l → t3 ≡ t2 ++ result_by value several ks → t4 ≡ t3 ++ codes "\n" → t4 ≡ report_by line value (tree_of l)
whole line value l several ks t0 t1 t2 t3 t4 e0 e1 e2 are is e3 e4 =
    let rows = lines line (named (tree_of l)) in
    let all : Text → Bool → List ℕ → Text = λ ls b es. ls ++ codes "result " ++ result_by value b es ++ codes "\n" in
    e4 ∙ ap (λ x. x ++ codes "\n") e3 ∙ ap (λ x. x ++ result_by value several ks ++ codes "\n") e2
    ∙ ap (λ x. all x several ks) (e1 ∙ ap (λ x. x ++ rows) e0)
    ∙ ap (λ b. all rows b ks) (is ∙ in_group_tree l)
    ∙ ap (λ es. all rows (ends_in_group (tree_of l)) es) (are ∙ ends_of_tree l)

-- ---- the report of a run

lines_are : (rows : Rows) (ts : List (ℕ × Text)) → lines (run_line rows) ts ≡ report_lines ts rows
lines_are rows [] = refl
lines_are rows (t ∷ ts) = ap (λ x. report_line t (state_of t.0 rows) ++ x) (lines_are rows ts)

listed_are : (rows : Rows) (ks : List ℕ) → listed (run_value rows) ks ≡ listed_values (with_states rows ks)
listed_are rows [] = refl
listed_are rows (k ∷ []) = refl
listed_are rows (k ∷ (j ∷ ks)) =
    let front = value_text (state_of k rows) ++ codes ", " in
    ap (λ x. front ++ x) (listed_are rows (j ∷ ks))

result_are : (rows : Rows) (b : Bool) (ks : List ℕ) → result_by (run_value rows) b ks ≡ result_text b (with_states rows ks)
result_are rows true ks = ap (λ x. codes "[" ++ x ++ codes "]") (listed_are rows ks)
result_are rows false ks = listed_are rows ks

pub report_is : (c : Tree) (rows : Rows) → report_by (run_line rows) (run_value rows) c ≡ report_of c rows
report_is c rows =
    λ i. lines_are rows (named c) i ++ codes "result " ++ result_are rows (ends_in_group c) (ends c) i ++ codes "\n"

-- ---- rows that a run has, in its own form

no_fate : (k : ℕ) → fate_at [] k ≡ None
no_fate zero = refl
no_fate (suc zero) = refl
no_fate (suc (suc k)) = refl

fault_is : (f : Fault) → fault_said Identifier f ≡ fault_text f
fault_is (fault.Plain kind) = refl
fault_is (fault.Chord dep why) = refl

state_is : (s : State) → state_said Identifier s ≡ value_text s
state_is None = refl
state_is (Some (outcome.Success n)) = refl
state_is (Some (outcome.Failure f)) = fault_is f

name_is : (s : State) → status_name (status_of s) ≡ state_name s
name_is None = refl
name_is (Some (outcome.Success n)) = refl
name_is (Some (outcome.Failure f)) = refl

module _ (ss : List State) where
  abbrev known : List Row
  known = map (λ s. row.Known s) ss

  line_is : (t : ℕ × Text) → row_said Identifier [] known t ≡ run_line (rows_from 1 ss) t
  line_is (k, name) =
      let s = state_of k (rows_from 1 ss) in
      let front : Text = task_text k ++ codes " " ++ name ++ codes " " in
      let text : Row → Option Fate → Text = λ r f. front ++ status_name (row_status r) ++ codes " " ++ value_said Identifier r ++ reason f ++ codes "\n" in
      ap (λ r. text r (fate_at [] k)) (row_state ss k) ∙ ap (text (row.Known s)) (no_fate k)
      ∙ (λ i. front ++ name_is s i ++ codes " " ++ state_is s i ++ [] ++ codes "\n")
      ∙ ap (λ x. x ++ codes "\n") (append-nil (front ++ state_name s ++ codes " " ++ value_text s))

  value_is : (k : ℕ) → said_at Identifier known k ≡ run_value (rows_from 1 ss) k
  value_is k = ap (value_said Identifier) (row_state ss k) ∙ state_is (state_of k (rows_from 1 ss))

  same_lines : (ts : List (ℕ × Text)) → lines (row_said Identifier [] known) ts ≡ lines (run_line (rows_from 1 ss)) ts
  same_lines [] = refl
  same_lines (t ∷ ts) = λ i. line_is t i ++ same_lines ts i

  same_listed : (ks : List ℕ) → listed (said_at Identifier known) ks ≡ listed (run_value (rows_from 1 ss)) ks
  same_listed [] = refl
  same_listed (k ∷ []) = value_is k
  same_listed (k ∷ (j ∷ ks)) = λ i. value_is k i ++ codes ", " ++ same_listed (j ∷ ks) i

  same_result : (b : Bool) (ks : List ℕ) → result_by (said_at Identifier known) b ks ≡ result_by (run_value (rows_from 1 ss)) b ks
  same_result true ks = ap (λ x. codes "[" ++ x ++ codes "]") (same_listed ks)
  same_result false ks = same_listed ks

  pub run_said : (c : Tree) → report_said Identifier [] known c ≡ report_of c (rows_from 1 ss)
  run_said c =
      (λ i. same_lines (named c) i ++ codes "result " ++ same_result (ends_in_group c) (ends c) i ++ codes "\n")
      ∙ report_is c (rows_from 1 ss)

-- ---- there are as many names as tasks

mutual
  many_of_task : (t : Task) → length (task_names t) ≡ count_task t
  many_of_task (task k call ls es) = omega (arith, length-append (tasks_names ls) (tasks_names es), many_of_tasks ls, many_of_tasks es)

  many_of_tasks : (ts : Tasks) → length (tasks_names ts) ≡ count_tasks ts
  many_of_tasks no_tasks = refl
  many_of_tasks (and_task t ts) = omega (arith, length-append (task_names t) (tasks_names ts), many_of_task t, many_of_tasks ts)

mutual
  many_names : (l : Line) → length (names l) ≡ count_line l
  many_names stop = refl
  many_names (step t l) = omega (arith, length-append (task_names t) (names l), many_of_task t, many_names l)
  many_names (group_end g ms) = many_in ms
  many_names (chord_end g ms b) = omega (arith, length-append (all_names ms) (names b), many_in ms, many_names b)

  many_in : (ms : Lines) → length (all_names ms) ≡ count_lines ms
  many_in no_lines = refl
  many_in (and_line m ms) = omega (arith, length-append (names m) (all_names ms), many_names m, many_in ms)

pub names_long : (l : Line) → length (names l) ≡ count_line l
names_long l = many_names l
