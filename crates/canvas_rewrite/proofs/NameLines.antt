-- The names of a line's tasks, and whether it ends in a group, by its parts.
use Rattle.std.proofs.Common.{◌≡◌, ◌∙◌, List, [], ◌∷◌, ◌++◌, map, Some, None, Box, Global, true, false, refl, sym, ap, append_assoc, append-nil}
use Rattle.canvas_semantics.specs.Tree.{Task, and_task}
use Rattle.canvas_values.specs.SignatureView.{tasks_of}
use Rattle.canvas_semantics.specs.Line.{Line, stop, task_names, tasks_names, names, all_names, in_group}
use Rattle.canvas_semantics.specs.PlacedLine.{PTask, PPlace, PLine, strip_task, strip_tasks}
use Rattle.canvas_rewrite.specs.FrozenView.{steps_onto, lines_of, p_tasks_of, p_task_view, task_in, line_in, end_in, PCarried, carried_step, p_end_step, p_line_step, p_task_step, place_step}
use Rattle.canvas_semantics.specs.steps.Numbering.{tasks_all_names, lines_all_names}
use Rattle.canvas_rewrite.specs.declared.frozen.FrozenTask as ftask
use Rattle.canvas_rewrite.specs.declared.frozen.FrozenTask.{FrozenTask, out-FrozenTask}
use Rattle.canvas_rewrite.specs.declared.frozen.FrozenLine.{FrozenLine, out-FrozenLine}
use Rattle.canvas_rewrite.specs.declared.frozen.FrozenEnd.{FrozenEnd, out-FrozenEnd}
use Rattle.canvas_rewrite.proofs.PlanLines.{in_none, in_some, in_group as of_group, in_chord as of_chord}

-- ---- tasks

strip_list : (ts : List FrozenTask) → strip_tasks (p_tasks_of (map p_task_view ts)) ≡ tasks_of (map task_in ts)
strip_list [] = refl
strip_list (t ∷ ts) = ap (λ us. and_task (task_in t) us) (strip_list ts)

all_of_tasks : (ts : List Task) → tasks_names (tasks_of ts) ≡ tasks_all_names ts
all_of_tasks [] = refl
all_of_tasks (t ∷ ts) = ap (λ ns. task_names t ++ ns) (all_of_tasks ts)

of_list : (ts : List FrozenTask) → tasks_names (strip_tasks (p_tasks_of (map p_task_view ts))) ≡ tasks_all_names (map task_in ts)
of_list ts = ap tasks_names (strip_list ts) ∙ all_of_tasks (map task_in ts)

pub task_named : (t : FrozenTask) → task_names (task_in t)
    ≡ (out-FrozenTask t).name ∷ tasks_all_names (map task_in (out-FrozenTask t).links) ++ tasks_all_names (map task_in (out-FrozenTask t).errbacks)
task_named t =
    ap (λ p. task_names (strip_task p))
    (ftask.fold_out-FrozenTask PCarried PLine PLine PTask PPlace carried_step p_end_step p_line_step p_task_step place_step t)
    ∙ (λ i. (out-FrozenTask t).name ∷ of_list (out-FrozenTask t).links i ++ of_list (out-FrozenTask t).errbacks i)

-- appended one after another
pub two : {X : Type 0} (before : List X) (x : X) (ys zs ys' zs' a b : List X) → a ≡ before ++ x ∷ [] → b ≡ a ++ ys → ys ≡ ys' → zs ≡ zs'
    → b ++ zs ≡ before ++ (x ∷ ys' ++ zs')
two before x ys zs ys' zs' a b ha hb hy hz =
    (λ i. (hb ∙ ap (λ w. w ++ ys) ha ∙ append_assoc before (x ∷ []) ys ∙ ap (λ w. before ++ (x ∷ w)) hy) i ++ hz i) ∙ append_assoc before (x ∷ ys') zs'

pub one_after : {X : Type 0} (before ys zs ys' zs' b : List X) → b ≡ before ++ ys → ys ≡ ys' → zs ≡ zs' → b ++ zs ≡ before ++ (ys' ++ zs')
one_after before ys zs ys' zs' b hb hy hz = (λ i. (hb ∙ ap (λ w. before ++ w) hy) i ++ hz i) ∙ append_assoc before ys' zs'

-- ---- lines

named_steps : (ts : List Task) (l : Line) → names (steps_onto ts l) ≡ tasks_all_names ts ++ names l
named_steps [] l = refl
named_steps (t ∷ ts) l = ap (λ ns. task_names t ++ ns) (named_steps ts l) ∙ sym (append_assoc (task_names t) (tasks_all_names ts) (names l))

all_of_lines : (ls : List Line) → all_names (lines_of ls) ≡ lines_all_names ls
all_of_lines [] = refl
all_of_lines (l ∷ ls) = ap (λ ns. names l ++ ns) (all_of_lines ls)

pub named_none : (l : FrozenLine) → (out-FrozenLine l).tail ≡ None → names (line_in l) ≡ tasks_all_names (map task_in (out-FrozenLine l).tasks)
named_none l e = ap names (in_none l e) ∙ named_steps (map task_in (out-FrozenLine l).tasks) stop ∙ append-nil _

pub named_some : (l : FrozenLine) (b : Box FrozenEnd Global) → (out-FrozenLine l).tail ≡ Some b
    → names (line_in l) ≡ tasks_all_names (map task_in (out-FrozenLine l).tasks) ++ names (end_in b.value)
named_some l b e = ap names (in_some l b e) ∙ named_steps (map task_in (out-FrozenLine l).tasks) (end_in b.value)

pub named_group : (t : FrozenEnd) → (out-FrozenEnd t).body ≡ None → names (end_in t) ≡ lines_all_names (map line_in (out-FrozenEnd t).members)
named_group t e = ap names (of_group t e) ∙ all_of_lines (map line_in (out-FrozenEnd t).members)

pub named_chord : (t : FrozenEnd) (b : FrozenLine) → (out-FrozenEnd t).body ≡ Some b
    → names (end_in t) ≡ lines_all_names (map line_in (out-FrozenEnd t).members) ++ names (line_in b)
named_chord t b e = ap names (of_chord t b e) ∙ ap (λ ns. ns ++ names (line_in b)) (all_of_lines (map line_in (out-FrozenEnd t).members))

-- ---- whether it ends in a group

group_steps : (ts : List Task) (l : Line) → in_group (steps_onto ts l) ≡ in_group l
group_steps [] l = refl
group_steps (t ∷ ts) l = group_steps ts l

pub no_group : (l : FrozenLine) → (out-FrozenLine l).tail ≡ None → in_group (line_in l) ≡ false
no_group l e = ap in_group (in_none l e) ∙ group_steps (map task_in (out-FrozenLine l).tasks) stop

some_end : (l : FrozenLine) (b : Box FrozenEnd Global) → (out-FrozenLine l).tail ≡ Some b → in_group (line_in l) ≡ in_group (end_in b.value)
some_end l b e = ap in_group (in_some l b e) ∙ group_steps (map task_in (out-FrozenLine l).tasks) (end_in b.value)

module _ (l : FrozenLine) (b : Box FrozenEnd Global) (e : FrozenEnd) (at : (out-FrozenLine l).tail ≡ Some b) (same : e ≡ b.value) where
  pub a_group : (out-FrozenEnd e).body ≡ None → in_group (line_in l) ≡ true
  a_group h = some_end l b at ∙ sym (ap (λ x. in_group (end_in x)) same) ∙ ap in_group (of_group e h)

  pub a_body : (x : FrozenLine) → (out-FrozenEnd e).body ≡ Some x → in_group (line_in l) ≡ in_group (line_in x)
  a_body x h = some_end l b at ∙ sym (ap (λ y. in_group (end_in y)) same) ∙ ap in_group (of_chord e x h)
