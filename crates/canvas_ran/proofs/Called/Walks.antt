-- The fronts of a line's tasks, by the parts of the line.
use Rattle.std.proofs.Common.{◌≡◌, ◌∙◌, ◌+◌, ◌<◌, ◌≤◌, ℕ, List, [], ◌∷◌, ◌++◌, map, drop, length, get_or, Option, Some, None, Box, Global, refl, sym, ap, append_assoc, append-nil}
use Rattle.std.proofs.lemmas.List.{at_drop_all}
use Rattle.canvas_task.proofs.Turns.{item_first}
use Rattle.canvas_semantics.specs.Tree.{Task, and_task}
use Rattle.canvas_values.specs.SignatureView.{tasks_of}
use Rattle.canvas_semantics.specs.Line.{Line, stop, no_of}
use Rattle.canvas_semantics.specs.PlacedLine.{PTask, PPlace, PLine, strip_task, strip_tasks}
use Rattle.canvas_rewrite.specs.FrozenView.{steps_onto, lines_of, p_tasks_of, p_task_view, task_in, line_in, end_in, PCarried, carried_step, p_end_step, p_line_step, p_task_step, place_step}
use Rattle.canvas_rewrite.specs.declared.frozen.FrozenTask as ftask
use Rattle.canvas_rewrite.specs.declared.frozen.FrozenTask.{FrozenTask, out-FrozenTask}
use Rattle.canvas_rewrite.specs.declared.frozen.FrozenLine.{FrozenLine, out-FrozenLine}
use Rattle.canvas_rewrite.specs.declared.frozen.FrozenEnd.{FrozenEnd, out-FrozenEnd}
use Rattle.canvas_rewrite.proofs.PlanLines.{in_none, in_some, in_group, in_chord}
use Rattle.canvas_report.specs.Fates.{Fates}
use Rattle.canvas_ran.specs.Fronts.{behind, beyond, line_end, line_fronts, lines_end, lines_fronts, or_else, own_end, task_fronts, tasks_fronts}
use Rattle.canvas_ran.specs.steps.FrontLists.{callbacks_fronts, front_behind, lines_ends, lines_fronts_of, tail_fronts, tasks_end, tasks_fronts_of}
use Rattle.canvas_ran.specs.declared.calls.front.Front.{Front}

strip_list : (ts : List FrozenTask) → strip_tasks (p_tasks_of (map p_task_view ts)) ≡ tasks_of (map task_in ts)
strip_list [] = refl
strip_list (t ∷ ts) = ap (λ us. and_task (task_in t) us) (strip_list ts)

pub number_in : (t : FrozenTask) → no_of (task_in t) ≡ (out-FrozenTask t).no
number_in t = ap (λ p. no_of (strip_task p)) (ftask.fold_out-FrozenTask PCarried PLine PLine PTask PPlace
    carried_step p_end_step p_line_step p_task_step place_step t)

module _ (fates : Fates) where
  all_callbacks : (ts : List Task) (f : Front) → tasks_fronts fates (tasks_of ts) f ≡ callbacks_fronts fates ts f
  all_callbacks [] f = refl
  all_callbacks (t ∷ ts) f = ap (λ ns. task_fronts fates t f ++ ns) (all_callbacks ts f)

  of_list : (ts : List FrozenTask) (f : Front) → tasks_fronts fates (strip_tasks (p_tasks_of (map p_task_view ts))) f
      ≡ callbacks_fronts fates (map task_in ts) f
  of_list ts f = ap (λ us. tasks_fronts fates us f) (strip_list ts) ∙ all_callbacks (map task_in ts) f

  pub task_parts : (t : FrozenTask) (f : Front) → task_fronts fates (task_in t) f
      ≡ f ∷ callbacks_fronts fates (map task_in (out-FrozenTask t).links) (behind fates (out-FrozenTask t).no f)
      ++ callbacks_fronts fates (map task_in (out-FrozenTask t).errbacks) (behind fates (out-FrozenTask t).no f)
  task_parts t f =
      ap (λ p. task_fronts fates (strip_task p) f)
      (ftask.fold_out-FrozenTask PCarried PLine PLine PTask PPlace
      carried_step p_end_step p_line_step p_task_step place_step t)
      ∙ (λ i. f ∷ of_list (out-FrozenTask t).links (behind fates (out-FrozenTask t).no f) i
      ++ of_list (out-FrozenTask t).errbacks (behind fates (out-FrozenTask t).no f) i)

  -- ---- fronts of lines

  steps_fronts : (ts : List Task) (l : Line) (f : Front)
      → line_fronts fates (steps_onto ts l) f ≡ tasks_fronts_of fates ts f ++ line_fronts fates l (front_behind fates ts f)
  steps_fronts [] l f = refl
  steps_fronts (t ∷ ts) l f =
      let next : Front = behind fates (no_of t) f in
      ap (λ ns. task_fronts fates t f ++ ns) (steps_fronts ts l next)
      ∙ sym (append_assoc (task_fronts fates t f) (tasks_fronts_of fates ts next)
      (line_fronts fates l (front_behind fates ts next)))

  all_lines : (ls : List Line) (f : Front) → lines_fronts fates (lines_of ls) f ≡ lines_fronts_of fates ls f
  all_lines [] f = refl
  all_lines (l ∷ ls) f = ap (λ ns. line_fronts fates l f ++ ns) (all_lines ls f)

  all_ends : (ls : List Line) → lines_end fates (lines_of ls) ≡ lines_ends fates ls
  all_ends [] = refl
  all_ends (l ∷ ls) = ap (λ ns. line_end fates l [] ++ ns) (all_ends ls)

  fronts_none : (l : FrozenLine) (f : Front) → (out-FrozenLine l).tail ≡ None
      → line_fronts fates (line_in l) f ≡ tasks_fronts_of fates (map task_in (out-FrozenLine l).tasks) f
  fronts_none l f e = ap (λ x. line_fronts fates x f) (in_none l e)
      ∙ steps_fronts (map task_in (out-FrozenLine l).tasks) stop f ∙ append-nil _

  fronts_some : (l : FrozenLine) (f : Front) (b : Box FrozenEnd Global) → (out-FrozenLine l).tail ≡ Some b
      → line_fronts fates (line_in l) f
      ≡ tasks_fronts_of fates (map task_in (out-FrozenLine l).tasks) f
      ++ line_fronts fates (end_in b.value) (front_behind fates (map task_in (out-FrozenLine l).tasks) f)
  fronts_some l f b e = ap (λ x. line_fronts fates x f) (in_some l b e)
      ∙ steps_fronts (map task_in (out-FrozenLine l).tasks) (end_in b.value) f

  pub fronts_tail : (l : FrozenLine) (f : Front) (o : Option (Box FrozenEnd Global)) → (out-FrozenLine l).tail ≡ o
      → line_fronts fates (line_in l) f
      ≡ tasks_fronts_of fates (map task_in (out-FrozenLine l).tasks) f
      ++ tail_fronts fates o (front_behind fates (map task_in (out-FrozenLine l).tasks) f)
  fronts_tail l f None e = fronts_none l f e ∙ sym (append-nil _)
  fronts_tail l f (Some b) e = fronts_some l f b e

  pub fronts_group : (t : FrozenEnd) (f : Front) → (out-FrozenEnd t).body ≡ None
      → line_fronts fates (end_in t) f ≡ lines_fronts_of fates (map line_in (out-FrozenEnd t).members) f
  fronts_group t f e = ap (λ x. line_fronts fates x f) (in_group t e)
      ∙ all_lines (map line_in (out-FrozenEnd t).members) f

  pub fronts_chord : (t : FrozenEnd) (f : Front) (b : FrozenLine) → (out-FrozenEnd t).body ≡ Some b
      → line_fronts fates (end_in t) f
      ≡ lines_fronts_of fates (map line_in (out-FrozenEnd t).members) f
      ++ line_fronts fates (line_in b) (beyond (lines_ends fates (map line_in (out-FrozenEnd t).members)) f)
  fronts_chord t f b e = ap (λ x. line_fronts fates x f) (in_chord t b e)
      ∙ (λ i. all_lines (map line_in (out-FrozenEnd t).members) f i
      ++ line_fronts fates (line_in b) (beyond (all_ends (map line_in (out-FrozenEnd t).members) i) f))

  -- ---- ends of lines

  steps_end : (ts : List Task) (l : Line) (before : List ℕ)
      → line_end fates (steps_onto ts l) before ≡ line_end fates l (tasks_end fates ts before)
  steps_end [] l before = refl
  steps_end (t ∷ ts) l before = steps_end ts l (own_end fates (no_of t) before)

  pub end_none : (l : FrozenLine) (before : List ℕ) → (out-FrozenLine l).tail ≡ None
      → line_end fates (line_in l) before ≡ tasks_end fates (map task_in (out-FrozenLine l).tasks) before
  end_none l before e = ap (λ x. line_end fates x before) (in_none l e)
      ∙ steps_end (map task_in (out-FrozenLine l).tasks) stop before

  pub end_some : (l : FrozenLine) (before : List ℕ) (b : Box FrozenEnd Global) → (out-FrozenLine l).tail ≡ Some b
      → line_end fates (line_in l) before
      ≡ line_end fates (end_in b.value) (tasks_end fates (map task_in (out-FrozenLine l).tasks) before)
  end_some l before b e = ap (λ x. line_end fates x before) (in_some l b e)
      ∙ steps_end (map task_in (out-FrozenLine l).tasks) (end_in b.value) before

  pub end_group : (t : FrozenEnd) (before : List ℕ) → (out-FrozenEnd t).body ≡ None
      → line_end fates (end_in t) before ≡ or_else (lines_ends fates (map line_in (out-FrozenEnd t).members)) before
  end_group t before e = ap (λ x. line_end fates x before) (in_group t e)
      ∙ ap (λ ks. or_else ks before) (all_ends (map line_in (out-FrozenEnd t).members))

  pub end_chord : (t : FrozenEnd) (before : List ℕ) (b : FrozenLine) → (out-FrozenEnd t).body ≡ Some b
      → line_end fates (end_in t) before
      ≡ line_end fates (line_in b) (or_else (lines_ends fates (map line_in (out-FrozenEnd t).members)) before)
  end_chord t before b e = ap (λ x. line_end fates x before) (in_chord t b e)
      ∙ ap (λ ks. line_end fates (line_in b) (or_else ks before)) (all_ends (map line_in (out-FrozenEnd t).members))

-- one more turn of the loops over the tasks in front of a line's end, and the loops' ends
module _ (fates : Fates) (ts : List FrozenTask) (i : ℕ) where
  pub tasks_on : (t : FrozenTask) (before found all : List Front) (f comes all_behind : Front) → i < length ts → t ≡ get_or ts i t
      → found ≡ before ++ task_fronts fates (task_in t) f
      → comes ≡ behind fates (out-FrozenTask t).no f
      → (before ++ tasks_fronts_of fates (map task_in (drop i ts)) f ≡ all) × (front_behind fates (map task_in (drop i ts)) f ≡ all_behind)
      → (found ++ tasks_fronts_of fates (map task_in (drop (i + 1) ts)) comes ≡ all)
      × (front_behind fates (map task_in (drop (i + 1) ts)) comes ≡ all_behind)
  tasks_on t before found all f comes all_behind inside is pushed next so_far =
      let left : List Task = map task_in (drop (i + 1) ts) in
      let one : List Front = task_fronts fates (task_in t) f in
      let then : Front = behind fates (no_of (task_in t)) f in
      let comes_then : comes ≡ then = next ∙ ap (λ k. behind fates k f) (sym (number_in t)) in (
        (λ j. pushed j ++ tasks_fronts_of fates left (comes_then j)) ∙ append_assoc before one (tasks_fronts_of fates left then)
            ∙ ap (λ us. before ++ tasks_fronts_of fates (map task_in us) f) (sym (item_first ts i t inside is)) ∙ so_far.0,
        ap (front_behind fates left) comes_then
            ∙ ap (λ us. front_behind fates (map task_in us) f) (sym (item_first ts i t inside is)) ∙ so_far.1,
      )

  pub behind_all : (f all_behind : Front) → length ts ≤ i → front_behind fates (map task_in (drop i ts)) f ≡ all_behind → f ≡ all_behind
  behind_all f all_behind past so_far = sym (at_drop_all (λ us. front_behind fates (map task_in us) f) ts i past) ∙ so_far

  pub end_on : (t : FrozenTask) (ends next all : List ℕ) → i < length ts → t ≡ get_or ts i t
      → next ≡ own_end fates (out-FrozenTask t).no ends
      → tasks_end fates (map task_in (drop i ts)) ends ≡ all
      → tasks_end fates (map task_in (drop (i + 1) ts)) next ≡ all
  end_on t ends next all inside is one so_far =
      ap (tasks_end fates (map task_in (drop (i + 1) ts))) (one ∙ ap (λ k. own_end fates k ends) (sym (number_in t)))
      ∙ ap (λ us. tasks_end fates (map task_in us) ends) (sym (item_first ts i t inside is)) ∙ so_far

  pub end_all : (ends all : List ℕ) → length ts ≤ i → tasks_end fates (map task_in (drop i ts)) ends ≡ all → ends ≡ all
  end_all ends all past so_far = sym (at_drop_all (λ us. tasks_end fates (map task_in us) ends) ts i past) ∙ so_far

-- the whole plan
pub at_plan : (fates told : Fates) (l m : Line) (f g : Front) (before found : List Front) → before ≡ []
    → found ≡ before ++ line_fronts fates m f → fates ≡ told → m ≡ l → f ≡ g → found ≡ line_fronts told l g
at_plan fates told l m f g before found none is same same_line first =
    is ∙ (λ i. none i ++ line_fronts (same i) (same_line i) (first i))
