-- What became of a line's tasks, by the parts of the line.
use Rattle.std.proofs.Common.{◌≡◌, ◌∙◌, ◌+◌, ◌<◌, ◌≤◌, ℕ, List, [], ◌∷◌, ◌++◌, map, drop, length, get_or, Some, None, Box, Global, refl, sym, ap, append_assoc, append-nil}
use Rattle.std.proofs.lemmas.List.{at_drop_all}
use Rattle.canvas_task.proofs.Turns.{item_first}
use Rattle.canvas_semantics.specs.Tree.{Task, and_task}
use Rattle.canvas_semantics.specs.Evaluation.{State, Rows, with_states, state_of}
use Rattle.canvas_semantics.specs.States.{rows_from}
use Rattle.canvas_values.specs.SignatureView.{tasks_of}
use Rattle.canvas_semantics.specs.Line.{Line, stop, no_of, members}
use Rattle.canvas_semantics.specs.PlacedLine.{PTask, PPlace, PLine, strip_task, strip_tasks}
use Rattle.canvas_rewrite.specs.FrozenView.{steps_onto, lines_of, p_tasks_of, p_task_view, task_in, line_in, end_in, PCarried, carried_step, p_end_step, p_line_step, p_task_step, place_step}
use Rattle.canvas_rewrite.specs.declared.frozen.FrozenTask as ftask
use Rattle.canvas_rewrite.specs.declared.frozen.FrozenTask.{FrozenTask, out-FrozenTask}
use Rattle.canvas_rewrite.specs.declared.frozen.FrozenLine.{FrozenLine, out-FrozenLine}
use Rattle.canvas_rewrite.specs.declared.frozen.FrozenEnd.{FrozenEnd, out-FrozenEnd}
use Rattle.canvas_rewrite.proofs.PlanLines.{in_none, in_some, in_group, in_chord}
use Rattle.canvas_report.specs.Fates.{Fates}
use Rattle.canvas_ran.specs.Seen.{fate_by, into_body, after, seen_callbacks, seen_task, seen, seen_all}
use Rattle.canvas_ran.specs.steps.SeenLists.{callbacks_seen, came_behind, tasks_seen, lines_seen}
use Rattle.canvas_ran.specs.declared.came.Came.{Came}
use Rattle.canvas_ran.specs.declared.came.Came.TheVariants.{Value}

strip_list : (ts : List FrozenTask) → strip_tasks (p_tasks_of (map p_task_view ts)) ≡ tasks_of (map task_in ts)
strip_list [] = refl
strip_list (t ∷ ts) = ap (λ us. and_task (task_in t) us) (strip_list ts)

module _ (rows : Rows) where
  all_callbacks : (ts : List Task) → seen_callbacks rows (tasks_of ts) ≡ callbacks_seen rows ts
  all_callbacks [] = refl
  all_callbacks (t ∷ ts) = ap (λ ns. seen_task rows t Value ++ ns) (all_callbacks ts)

  of_list : (ts : List FrozenTask) → seen_callbacks rows (strip_tasks (p_tasks_of (map p_task_view ts)))
      ≡ callbacks_seen rows (map task_in ts)
  of_list ts = ap (seen_callbacks rows) (strip_list ts) ∙ all_callbacks (map task_in ts)

  pub task_seen : (t : FrozenTask) (c : Came) → seen_task rows (task_in t) c
      ≡ ((out-FrozenTask t).no, fate_by c (state_of (out-FrozenTask t).no rows))
      ∷ callbacks_seen rows (map task_in (out-FrozenTask t).links) ++ callbacks_seen rows
      (map task_in (out-FrozenTask t).errbacks)
  task_seen t c =
      ap (λ p. seen_task rows (strip_task p) c)
      (ftask.fold_out-FrozenTask PCarried PLine PLine PTask PPlace
      carried_step p_end_step p_line_step p_task_step place_step t)
      ∙ (λ i. ((out-FrozenTask t).no, fate_by c (state_of (out-FrozenTask t).no rows))
      ∷ of_list (out-FrozenTask t).links i ++ of_list (out-FrozenTask t).errbacks i)

  module _ (table : ℕ → List ℕ) where
    steps_seen : (ts : List Task) (l : Line) (c : Came)
        → seen rows table (steps_onto ts l) c ≡ tasks_seen rows ts c ++ seen rows table l (came_behind rows ts c)
    steps_seen [] l c = refl
    steps_seen (t ∷ ts) l c =
        let next : Came = after c (no_of t) (state_of (no_of t) rows) in
        ap (λ ns. seen_task rows t c ++ ns) (steps_seen ts l next)
        ∙ sym (append_assoc (seen_task rows t c) (tasks_seen rows ts next)
        (seen rows table l (came_behind rows ts next)))

    all_lines : (ls : List Line) (c : Came) → seen_all rows table (lines_of ls) c ≡ lines_seen rows table ls c
    all_lines [] c = refl
    all_lines (l ∷ ls) c = ap (λ ns. seen rows table l c ++ ns) (all_lines ls c)

    pub seen_none : (l : FrozenLine) (c : Came) → (out-FrozenLine l).tail ≡ None
        → seen rows table (line_in l) c ≡ tasks_seen rows (map task_in (out-FrozenLine l).tasks) c
    seen_none l c e = ap (λ x. seen rows table x c) (in_none l e)
        ∙ steps_seen (map task_in (out-FrozenLine l).tasks) stop c ∙ append-nil _

    pub seen_some : (l : FrozenLine) (c : Came) (b : Box FrozenEnd Global) → (out-FrozenLine l).tail ≡ Some b
        → seen rows table (line_in l) c
        ≡ tasks_seen rows (map task_in (out-FrozenLine l).tasks) c
        ++ seen rows table (end_in b.value) (came_behind rows (map task_in (out-FrozenLine l).tasks) c)
    seen_some l c b e = ap (λ x. seen rows table x c) (in_some l b e)
        ∙ steps_seen (map task_in (out-FrozenLine l).tasks) (end_in b.value) c

    pub seen_group : (t : FrozenEnd) (c : Came) → (out-FrozenEnd t).body ≡ None
        → seen rows table (end_in t) c ≡ lines_seen rows table (map line_in (out-FrozenEnd t).members) c
    seen_group t c e = ap (λ x. seen rows table x c) (in_group t e)
        ∙ all_lines (map line_in (out-FrozenEnd t).members) c

    pub seen_chord : (t : FrozenEnd) (c : Came) (b : FrozenLine) → (out-FrozenEnd t).body ≡ Some b
        → seen rows table (end_in t) c
        ≡ lines_seen rows table (map line_in (out-FrozenEnd t).members) c
        ++ seen rows table (line_in b) (into_body c (with_states rows (table (out-FrozenEnd t).group)))
    seen_chord t c b e = ap (λ x. seen rows table x c) (in_chord t b e)
        ∙ ap (λ ns. ns ++ seen rows table (line_in b) (into_body c (with_states rows (table (out-FrozenEnd t).group))))
        (all_lines (map line_in (out-FrozenEnd t).members) c)

-- the whole plan, from nothing
pub at_plan : (l m : Line) (ss ts : List State) (before found : Fates) (c : Came) → before ≡ []
    → found ≡ before ++ seen (rows_from 1 ss) (members l) m c
    → ss ≡ ts → m ≡ l → found ≡ seen (rows_from 1 ts) (members l) l c
at_plan l m ss ts before found c none is same_rows same_line =
    is ∙ (λ i. none i ++ seen (rows_from 1 (same_rows i)) (members l) (same_line i) c)

number_in : (t : FrozenTask) → no_of (task_in t) ≡ (out-FrozenTask t).no
number_in t = ap (λ p. no_of (strip_task p)) (ftask.fold_out-FrozenTask PCarried PLine PLine PTask PPlace
    carried_step p_end_step p_line_step p_task_step place_step t)

-- one more turn of the loop over the tasks in front of a line's end, and the loop's end
module _ (rows : Rows) (ts : List FrozenTask) (i : ℕ) where
  pub tasks_on : (t : FrozenTask) (before found all : Fates) (came comes behind : Came) → i < length ts → t ≡ get_or ts i t
      → found ≡ before ++ seen_task rows (task_in t) came
      → comes ≡ after came (out-FrozenTask t).no (state_of (out-FrozenTask t).no rows)
      → (before ++ tasks_seen rows (map task_in (drop i ts)) came ≡ all) × (came_behind rows (map task_in (drop i ts)) came ≡ behind)
      → (found ++ tasks_seen rows (map task_in (drop (i + 1) ts)) comes ≡ all)
      × (came_behind rows (map task_in (drop (i + 1) ts)) comes ≡ behind)
  tasks_on t before found all came comes behind inside is pushed next so_far =
      let left : List Task = map task_in (drop (i + 1) ts) in
      let one : Fates = seen_task rows (task_in t) came in
      let then : Came = after came (no_of (task_in t)) (state_of (no_of (task_in t)) rows) in
      let comes_then : comes ≡ then = next ∙ ap (λ k. after came k (state_of k rows)) (sym (number_in t)) in (
        (λ j. pushed j ++ tasks_seen rows left (comes_then j)) ∙ append_assoc before one (tasks_seen rows left then)
            ∙ ap (λ us. before ++ tasks_seen rows (map task_in us) came) (sym (item_first ts i t inside is)) ∙ so_far.0,
        ap (came_behind rows left) comes_then
            ∙ ap (λ us. came_behind rows (map task_in us) came) (sym (item_first ts i t inside is)) ∙ so_far.1,
      )

  pub behind_all : (came behind : Came) → length ts ≤ i → came_behind rows (map task_in (drop i ts)) came ≡ behind → came ≡ behind
  behind_all came behind past so_far = sym (at_drop_all (λ us. came_behind rows (map task_in us) came) ts i past) ∙ so_far
