-- The parameters at fault in a run, by the parts of its line.
use Rattle.std.proofs.Common.{◌≡◌, ◌∙◌, ◌+◌, ◌<◌, ◌≤◌, ℕ, Bool, List, [], ◌∷◌, ◌++◌, map, drop, length, get_or, Option, Some, None, Box, Global, refl, sym, ap, append_assoc, append-nil}
use Rattle.std.proofs.lemmas.List.{at_drop_all}
use Rattle.canvas_task.proofs.Turns.{item_first}
use Rattle.canvas_semantics.specs.Tree.{Call, Task, and_task}
use Rattle.canvas_values.specs.SignatureView.{tasks_of}
use Rattle.canvas_semantics.specs.Line.{Line, stop}
use Rattle.canvas_semantics.specs.PlacedLine.{PTask, PPlace, PLine, strip_task, strip_tasks}
use Rattle.canvas_rewrite.specs.FrozenView.{steps_onto, lines_of, p_tasks_of, p_task_view, task_in, line_in, end_in, PCarried, carried_step, p_end_step, p_line_step, p_task_step, place_step}
use Rattle.canvas_rewrite.specs.declared.frozen.FrozenTask as ftask
use Rattle.canvas_rewrite.specs.declared.frozen.FrozenTask.{FrozenTask, out-FrozenTask}
use Rattle.canvas_rewrite.specs.declared.frozen.FrozenLine.{FrozenLine, out-FrozenLine}
use Rattle.canvas_rewrite.specs.declared.frozen.FrozenEnd.{FrozenEnd, out-FrozenEnd}
use Rattle.canvas_rewrite.proofs.PlanLines.{in_none, in_some, in_group, in_chord}
use Rattle.canvas_adapt.specs.declared.stubs.stub.Stub.{Stub}
use Rattle.canvas_check.specs.declared.position.Input.{Input}
use Rattle.canvas_check.specs.declared.position.Input.TheVariants.{Number, Numbers, Identifier}
use Rattle.canvas_answer.specs.Blamed.{Blames, line_blames, lines_blames, own_blames, task_blames, tasks_blames}
use Rattle.canvas_answer.specs.steps.BlamedLists.{call_in, callbacks_blames, chain_blames, input_after, lines_blames_of, tail_blames}

strip_list : (ts : List FrozenTask) → strip_tasks (p_tasks_of (map p_task_view ts)) ≡ tasks_of (map task_in ts)
strip_list [] = refl
strip_list (t ∷ ts) = ap (λ us. and_task (task_in t) us) (strip_list ts)

pub three : {X : Type 0} (before xs ys zs ys' zs' a b : List X) → a ≡ before ++ xs → b ≡ a ++ ys → ys ≡ ys' → zs ≡ zs'
    → b ++ zs ≡ before ++ ((xs ++ ys') ++ zs')
three before xs ys zs ys' zs' a b ha hb hy hz =
    (λ i. (hb ∙ ap (λ w. w ++ ys) ha ∙ append_assoc before xs ys ∙ ap (λ w. before ++ (xs ++ w)) hy) i ++ hz i)
    ∙ append_assoc before (xs ++ ys') zs'

-- the call of a task
abbrev pub call_made : FrozenTask → Call
call_made t =
    record {
      name = (out-FrozenTask t).name;
      args = (out-FrozenTask t).args;
      kwargs = (out-FrozenTask t).kwargs;
      immutable = (out-FrozenTask t).immutable;
    }

pub call_is : (t : FrozenTask) → call_in (task_in t) ≡ call_made t
call_is t = ap (λ p. call_in (strip_task p)) (ftask.fold_out-FrozenTask PCarried PLine PLine PTask PPlace
    carried_step p_end_step p_line_step p_task_step place_step t)

module _ (stubs : List Stub) (is_bad : ℕ → Bool) where
  all_callbacks : (ts : List Task) (i : Input) → tasks_blames stubs is_bad (tasks_of ts) i ≡ callbacks_blames stubs is_bad ts i
  all_callbacks [] i = refl
  all_callbacks (t ∷ ts) i = ap (λ ns. task_blames stubs is_bad t i ++ ns) (all_callbacks ts i)

  of_list : (ts : List FrozenTask) (i : Input) → tasks_blames stubs is_bad (strip_tasks (p_tasks_of (map p_task_view ts))) i
      ≡ callbacks_blames stubs is_bad (map task_in ts) i
  of_list ts i = ap (λ us. tasks_blames stubs is_bad us i) (strip_list ts) ∙ all_callbacks (map task_in ts) i

  pub task_parts : (t : FrozenTask) (i : Input) → task_blames stubs is_bad (task_in t) i
      ≡ own_blames stubs is_bad (out-FrozenTask t).no (call_in (task_in t)) i
      ++ callbacks_blames stubs is_bad (map task_in (out-FrozenTask t).links) Number
      ++ callbacks_blames stubs is_bad (map task_in (out-FrozenTask t).errbacks) Identifier
  task_parts t i =
      ap (λ p. task_blames stubs is_bad (strip_task p) i)
      (ftask.fold_out-FrozenTask PCarried PLine PLine PTask PPlace
      carried_step p_end_step p_line_step p_task_step place_step t)
      ∙ (λ j. own_blames stubs is_bad (out-FrozenTask t).no (sym (call_is t) j) i
      ++ of_list (out-FrozenTask t).links Number j ++ of_list (out-FrozenTask t).errbacks Identifier j)

  -- ---- of lines

  steps_blames : (ts : List Task) (l : Line) (i : Input) → line_blames stubs is_bad (steps_onto ts l) i
      ≡ chain_blames stubs is_bad ts i ++ line_blames stubs is_bad l (input_after ts i)
  steps_blames [] l i = refl
  steps_blames (t ∷ []) l i = sym (append_assoc (task_blames stubs is_bad t i) [] (line_blames stubs is_bad l Number))
  steps_blames (t ∷ u ∷ ts) l i =
      ap (λ ns. task_blames stubs is_bad t i ++ ns) (steps_blames (u ∷ ts) l Number)
      ∙ sym (append_assoc (task_blames stubs is_bad t i) (chain_blames stubs is_bad (u ∷ ts) Number)
      (line_blames stubs is_bad l Number))

  all_lines : (ls : List Line) (i : Input) → lines_blames stubs is_bad (lines_of ls) i ≡ lines_blames_of stubs is_bad ls i
  all_lines [] i = refl
  all_lines (l ∷ ls) i = ap (λ ns. line_blames stubs is_bad l i ++ ns) (all_lines ls i)

  blames_none : (l : FrozenLine) (i : Input) → (out-FrozenLine l).tail ≡ None
      → line_blames stubs is_bad (line_in l) i ≡ chain_blames stubs is_bad (map task_in (out-FrozenLine l).tasks) i
  blames_none l i e = ap (λ x. line_blames stubs is_bad x i) (in_none l e)
      ∙ steps_blames (map task_in (out-FrozenLine l).tasks) stop i ∙ append-nil _

  blames_some : (l : FrozenLine) (i : Input) (b : Box FrozenEnd Global) → (out-FrozenLine l).tail ≡ Some b
      → line_blames stubs is_bad (line_in l) i
      ≡ chain_blames stubs is_bad (map task_in (out-FrozenLine l).tasks) i
      ++ line_blames stubs is_bad (end_in b.value) (input_after (map task_in (out-FrozenLine l).tasks) i)
  blames_some l i b e = ap (λ x. line_blames stubs is_bad x i) (in_some l b e)
      ∙ steps_blames (map task_in (out-FrozenLine l).tasks) (end_in b.value) i

  pub blames_tail : (l : FrozenLine) (i : Input) (o : Option (Box FrozenEnd Global)) → (out-FrozenLine l).tail ≡ o
      → line_blames stubs is_bad (line_in l) i
      ≡ chain_blames stubs is_bad (map task_in (out-FrozenLine l).tasks) i
      ++ tail_blames stubs is_bad o (input_after (map task_in (out-FrozenLine l).tasks) i)
  blames_tail l i None e = blames_none l i e ∙ sym (append-nil _)
  blames_tail l i (Some b) e = blames_some l i b e

  pub blames_group : (t : FrozenEnd) (i : Input) → (out-FrozenEnd t).body ≡ None
      → line_blames stubs is_bad (end_in t) i ≡ lines_blames_of stubs is_bad (map line_in (out-FrozenEnd t).members) i
  blames_group t i e = ap (λ x. line_blames stubs is_bad x i) (in_group t e)
      ∙ all_lines (map line_in (out-FrozenEnd t).members) i

  pub blames_chord : (t : FrozenEnd) (i : Input) (b : FrozenLine) → (out-FrozenEnd t).body ≡ Some b
      → line_blames stubs is_bad (end_in t) i
      ≡ lines_blames_of stubs is_bad (map line_in (out-FrozenEnd t).members) i
      ++ line_blames stubs is_bad (line_in b) Numbers
  blames_chord t i b e = ap (λ x. line_blames stubs is_bad x i) (in_chord t b e)
      ∙ ap (λ ns. ns ++ line_blames stubs is_bad (line_in b) Numbers) (all_lines (map line_in (out-FrozenEnd t).members) i)

-- one more turn of the loop over the tasks before a line's end, and the loop's end
module _ (stubs : List Stub) (is_bad : ℕ → Bool) (ts : List FrozenTask) (n : ℕ) where
  pub tasks_on : (t : FrozenTask) (before found all : Blames) (i last : Input) → n < length ts → t ≡ get_or ts n t
      → found ≡ before ++ task_blames stubs is_bad (task_in t) i
      → (before ++ chain_blames stubs is_bad (map task_in (drop n ts)) i ≡ all) × (input_after (map task_in (drop n ts)) i ≡ last)
      → (found ++ chain_blames stubs is_bad (map task_in (drop (n + 1) ts)) Number ≡ all)
      × (input_after (map task_in (drop (n + 1) ts)) Number ≡ last)
  tasks_on t before found all i last inside is pushed so_far =
      let left : List Task = map task_in (drop (n + 1) ts) in (
        ap (λ f. f ++ chain_blames stubs is_bad left Number) pushed
            ∙ append_assoc before (task_blames stubs is_bad (task_in t) i) (chain_blames stubs is_bad left Number)
            ∙ ap (λ us. before ++ chain_blames stubs is_bad (map task_in us) i) (sym (item_first ts n t inside is)) ∙ so_far.0,
        after_number left ∙ ap (λ us. input_after (map task_in us) i) (sym (item_first ts n t inside is)) ∙ so_far.1,
      )
    where
      after_number : (us : List Task) → input_after us Number ≡ Number
      after_number [] = refl
      after_number (u ∷ us) = refl

  pub after_all : (i last : Input) → length ts ≤ n → input_after (map task_in (drop n ts)) i ≡ last → i ≡ last
  after_all i last past so_far = sym (at_drop_all (λ us. input_after (map task_in us) i) ts n past) ∙ so_far
