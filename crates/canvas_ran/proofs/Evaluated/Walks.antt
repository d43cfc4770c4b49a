-- What the walk finds of a line, by the parts of the line.
use Rattle.std.proofs.Common.{◌≡◌, ◌∙◌, ◌+◌, ◌<◌, ◌≤◌, ℕ, List, [], ◌∷◌, ◌++◌, map, drop, length, get_or, Option, Some, None, Result, Ok, Err, OnOk, Box, Global, refl, sym, ap, append_assoc, append-nil}
use Rattle.std.specs.Prelude.{option_to_list}
use Rattle.std.specs.Option.{option_map}
use Rattle.std.proofs.lemmas.List.{at_drop_all}
use Rattle.canvas_task.proofs.Turns.{item_first}
use Rattle.canvas_task.specs.Apply.{Behaviour}
use Rattle.canvas_semantics.specs.Tree.{Call, Task, task, and_task}
use Rattle.canvas_semantics.specs.Evaluation.{Flow, State, state, to_links, to_errbacks, passed_on, group_value}
use Rattle.canvas_semantics.specs.Line.{Line, stop, group_end, chord_end, Lines, no_of}
use Rattle.canvas_semantics.specs.PlacedLine.{PTask, PPlace, PLine, strip_task, strip_tasks}
use Rattle.canvas_values.specs.SignatureView.{tasks_of}
use Rattle.canvas_rewrite.specs.FrozenView.{steps_onto, lines_of, p_tasks_of, p_task_view, task_in, line_in, end_in, PCarried, carried_step, p_end_step, p_line_step, p_task_step, place_step}
use Rattle.canvas_rewrite.specs.declared.frozen.FrozenTask as ftask
use Rattle.canvas_rewrite.specs.declared.frozen.FrozenTask.{FrozenTask, out-FrozenTask}
use Rattle.canvas_rewrite.specs.declared.frozen.FrozenLine.{FrozenLine, out-FrozenLine}
use Rattle.canvas_rewrite.specs.declared.frozen.FrozenEnd.{FrozenEnd, out-FrozenEnd}
use Rattle.canvas_rewrite.proofs.PlanLines.{in_none, in_some, in_group, in_chord}
use Rattle.canvas_ran.specs.steps.Walked.{own_state, task_states, tasks_states, next_flow, line_ends, lines_ends, line_states, lines_states, callbacks_states, front_states, flow_behind, last_end, all_states, all_ends}

-- ---- a task

abbrev pub call_of : FrozenTask → Call
call_of t =
    record {
      name = (out-FrozenTask t).name;
      args = (out-FrozenTask t).args;
      kwargs = (out-FrozenTask t).kwargs;
      immutable = (out-FrozenTask t).immutable;
    }

strip_list : (ts : List FrozenTask) → strip_tasks (p_tasks_of (map p_task_view ts)) ≡ tasks_of (map task_in ts)
strip_list [] = refl
strip_list (t ∷ ts) = ap (λ us. and_task (task_in t) us) (strip_list ts)

pub task_whole : (t : FrozenTask) → task_in t
    ≡ task (out-FrozenTask t).no (call_of t) (tasks_of (map task_in (out-FrozenTask t).links)) (tasks_of (map task_in (out-FrozenTask t).errbacks))
task_whole t =
    ap strip_task (ftask.fold_out-FrozenTask PCarried PLine PLine PTask PPlace carried_step p_end_step p_line_step p_task_step place_step t)
    ∙ (λ i. task (out-FrozenTask t).no (call_of t) (strip_list (out-FrozenTask t).links i) (strip_list (out-FrozenTask t).errbacks i))

pub number_in : (t : FrozenTask) → no_of (task_in t) ≡ (out-FrozenTask t).no
number_in t = ap no_of (task_whole t)

module _ (behaviour : Behaviour) where
  all_callbacks : (ts : List Task) (x : Option Flow) → tasks_states behaviour (tasks_of ts) x ≡ callbacks_states behaviour ts x
  all_callbacks [] x = refl
  all_callbacks (t ∷ ts) x = ap (λ ss. task_states behaviour t x ++ ss) (all_callbacks ts x)

  pub own_found : (t : FrozenTask) (x : Option Flow) → own_state behaviour (task_in t) x ≡ state behaviour (call_of t) x
  own_found t x = ap (λ u. own_state behaviour u x) (task_whole t)

  pub task_found : (t : FrozenTask) (x : Option Flow) → task_states behaviour (task_in t) x
      ≡ state behaviour (call_of t) x
      ∷ callbacks_states behaviour (map task_in (out-FrozenTask t).links) (to_links (state behaviour (call_of t) x))
      ++ callbacks_states behaviour (map task_in (out-FrozenTask t).errbacks)
      (to_errbacks (out-FrozenTask t).no x (state behaviour (call_of t) x))
  task_found t x =
      let s : State = state behaviour (call_of t) x in
      ap (λ u. task_states behaviour u x) (task_whole t)
      ∙ (λ i. s ∷ all_callbacks (map task_in (out-FrozenTask t).links) (to_links s) i
      ++ all_callbacks (map task_in (out-FrozenTask t).errbacks) (to_errbacks (out-FrozenTask t).no x s) i)

  -- ---- a line

  steps_states : (ts : List Task) (l : Line) (x : Flow)
      → line_states behaviour (steps_onto ts l) x ≡ front_states behaviour ts x ++ line_states behaviour l (flow_behind behaviour ts x)
  steps_states [] l x = refl
  steps_states (t ∷ ts) l x =
      ap (λ ss. task_states behaviour t (Some x) ++ ss) (steps_states ts l (next_flow behaviour t x))
      ∙ sym (append_assoc (task_states behaviour t (Some x)) (front_states behaviour ts (next_flow behaviour t x))
      (line_states behaviour l (flow_behind behaviour ts (next_flow behaviour t x))))

  -- the ends of a group or chord after tasks
  group_ends : (ts : List Task) (g : ℕ) (ms : Lines) (x : Flow)
      → line_ends behaviour (steps_onto ts (group_end g ms)) x ≡ line_ends behaviour (group_end g ms) (flow_behind behaviour ts x)
  group_ends [] g ms x = refl
  group_ends (t ∷ []) g ms x = refl
  group_ends (t ∷ u ∷ ts) g ms x = group_ends (u ∷ ts) g ms (next_flow behaviour t x)

  chord_ends : (ts : List Task) (g : ℕ) (ms : Lines) (b : Line) (x : Flow)
      → line_ends behaviour (steps_onto ts (chord_end g ms b)) x ≡ line_ends behaviour (chord_end g ms b) (flow_behind behaviour ts x)
  chord_ends [] g ms b x = refl
  chord_ends (t ∷ []) g ms b x = refl
  chord_ends (t ∷ u ∷ ts) g ms b x = chord_ends (u ∷ ts) g ms b (next_flow behaviour t x)

  -- the end of a line of tasks
  one_end : (t : Task) (ts : List Task) (x : Flow) (z : Option (ℕ × State))
      → line_ends behaviour (steps_onto (t ∷ ts) stop) x ≡ option_to_list (last_end behaviour (t ∷ ts) x z)
  one_end t [] x z = refl
  one_end t (u ∷ us) x z = one_end u us (next_flow behaviour t x) (Some (no_of t, own_state behaviour t (Some x)))

  tasks_ends : (ts : List Task) (x : Flow) → line_ends behaviour (steps_onto ts stop) x ≡ option_to_list (last_end behaviour ts x None)
  tasks_ends [] x = refl
  tasks_ends (t ∷ ts) x = one_end t ts x None

  every_states : (ls : List Line) (x : Flow) → lines_states behaviour (lines_of ls) x ≡ all_states behaviour ls x
  every_states [] x = refl
  every_states (l ∷ ls) x = ap (λ ss. line_states behaviour l x ++ ss) (every_states ls x)

  every_ends : (ls : List Line) (x : Flow) → lines_ends behaviour (lines_of ls) x ≡ all_ends behaviour ls x
  every_ends [] x = refl
  every_ends (l ∷ ls) x = ap (λ es. line_ends behaviour l x ++ es) (every_ends ls x)

  module _ (l : FrozenLine) (x : Flow) where
    abbrev own : List Task
    own = map task_in (out-FrozenLine l).tasks

    pub states_none : (out-FrozenLine l).tail ≡ None → line_states behaviour (line_in l) x ≡ front_states behaviour (map task_in (out-FrozenLine l).tasks) x
    states_none e = ap (λ y. line_states behaviour y x) (in_none l e) ∙ steps_states own stop x ∙ append-nil (front_states behaviour own x)

    pub ends_none : (out-FrozenLine l).tail ≡ None
        → line_ends behaviour (line_in l) x ≡ option_to_list (last_end behaviour (map task_in (out-FrozenLine l).tasks) x None)
    ends_none e = ap (λ y. line_ends behaviour y x) (in_none l e) ∙ tasks_ends own x

    module _ (b : Box FrozenEnd Global) (e : (out-FrozenLine l).tail ≡ Some b) where
      pub states_some : line_states behaviour (line_in l) x
          ≡ front_states behaviour (map task_in (out-FrozenLine l).tasks) x
          ++ line_states behaviour (end_in b.value) (flow_behind behaviour (map task_in (out-FrozenLine l).tasks) x)
      states_some = ap (λ y. line_states behaviour y x) (in_some l b e) ∙ steps_states own (end_in b.value) x

      by_body : (o : Option FrozenLine) → (out-FrozenEnd b.value).body ≡ o
          → line_ends behaviour (line_in l) x ≡ line_ends behaviour (end_in b.value) (flow_behind behaviour own x)
      by_body None h =
          ap (λ y. line_ends behaviour y x) (in_some l b e ∙ ap (steps_onto own) (in_group b.value h))
          ∙ group_ends own (out-FrozenEnd b.value).group (lines_of (map line_in (out-FrozenEnd b.value).members)) x
          ∙ ap (λ y. line_ends behaviour y (flow_behind behaviour own x)) (sym (in_group b.value h))
      by_body (Some c) h =
          ap (λ y. line_ends behaviour y x) (in_some l b e ∙ ap (steps_onto own) (in_chord b.value c h))
          ∙ chord_ends own (out-FrozenEnd b.value).group (lines_of (map line_in (out-FrozenEnd b.value).members)) (line_in c) x
          ∙ ap (λ y. line_ends behaviour y (flow_behind behaviour own x)) (sym (in_chord b.value c h))

      pub ends_some : line_ends behaviour (line_in l) x
          ≡ line_ends behaviour (end_in b.value) (flow_behind behaviour (map task_in (out-FrozenLine l).tasks) x)
      ends_some = by_body (out-FrozenEnd b.value).body refl

  module _ (t : FrozenEnd) (x : Flow) where
    pub states_group : (out-FrozenEnd t).body ≡ None
        → line_states behaviour (end_in t) x ≡ all_states behaviour (map line_in (out-FrozenEnd t).members) x
    states_group e = ap (λ y. line_states behaviour y x) (in_group t e) ∙ every_states (map line_in (out-FrozenEnd t).members) x

    pub ends_group : (out-FrozenEnd t).body ≡ None → line_ends behaviour (end_in t) x ≡ all_ends behaviour (map line_in (out-FrozenEnd t).members) x
    ends_group e = ap (λ y. line_ends behaviour y x) (in_group t e) ∙ every_ends (map line_in (out-FrozenEnd t).members) x

    module _ (b : FrozenLine) (e : (out-FrozenEnd t).body ≡ Some b) where
      pub states_chord : line_states behaviour (end_in t) x
          ≡ all_states behaviour (map line_in (out-FrozenEnd t).members) x
          ++ line_states behaviour (line_in b) (group_value x (all_ends behaviour (map line_in (out-FrozenEnd t).members) x))
      states_chord =
          let ls = map line_in (out-FrozenEnd t).members in
          ap (λ y. line_states behaviour y x) (in_chord t b e)
          ∙ (λ i. every_states ls x i ++ line_states behaviour (line_in b) (group_value x (every_ends ls x i)))

      pub ends_chord : line_ends behaviour (end_in t) x
          ≡ line_ends behaviour (line_in b) (group_value x (all_ends behaviour (map line_in (out-FrozenEnd t).members) x))
      ends_chord =
          let ls = map line_in (out-FrozenEnd t).members in
          ap (λ y. line_ends behaviour y x) (in_chord t b e)
          ∙ (λ i. line_ends behaviour (line_in b) (group_value x (every_ends ls x i)))

  -- ---- one more turn of the loop over the tasks in front of a line's end, and the loop's end

  module _ (ts : List FrozenTask) (i : ℕ) where
    pub tasks_on : (t : FrozenTask) (before found all : List State) (x y behind : Flow) (z z' last : Option (ℕ × State)) (s : State) → i < length ts
        → t ≡ get_or ts i t → found ≡ before ++ task_states behaviour (task_in t) (Some x) → s ≡ own_state behaviour (task_in t) (Some x)
        → y ≡ passed_on s → z' ≡ Some ((out-FrozenTask t).no, s)
        → (before ++ front_states behaviour (map task_in (drop i ts)) x ≡ all) × (flow_behind behaviour (map task_in (drop i ts)) x ≡ behind)
        × (last_end behaviour (map task_in (drop i ts)) x z ≡ last)
        → (found ++ front_states behaviour (map task_in (drop (i + 1) ts)) y ≡ all) × (flow_behind behaviour (map task_in (drop (i + 1) ts)) y ≡ behind)
        × (last_end behaviour (map task_in (drop (i + 1) ts)) y z' ≡ last)
    tasks_on t before found all x y behind z z' last s inside is pushed state next ended so_far =
        let left : List Task = map task_in (drop (i + 1) ts) in
        let one : List State = task_states behaviour (task_in t) (Some x) in
        let then : y ≡ next_flow behaviour (task_in t) x = next ∙ ap passed_on state in
        let first : drop i ts ≡ t ∷ drop (i + 1) ts = item_first ts i t inside is in
        let own_end : z' ≡ Some (no_of (task_in t), own_state behaviour (task_in t) (Some x)) =
        ended ∙ (λ j. Some (sym (number_in t) j, state j)) in (
          (λ j. pushed j ++ front_states behaviour left (then j)) ∙ append_assoc before one (front_states behaviour left (next_flow behaviour (task_in t) x))
              ∙ ap (λ us. before ++ front_states behaviour (map task_in us) x) (sym first) ∙ so_far.0,
          ap (flow_behind behaviour left) then ∙ ap (λ us. flow_behind behaviour (map task_in us) x) (sym first) ∙ so_far.1,
          (λ j. last_end behaviour left (then j) (own_end j)) ∙ ap (λ us. last_end behaviour (map task_in us) x z) (sym first) ∙ so_far.2,
        )

    pub behind_all : (x behind : Flow) → length ts ≤ i → flow_behind behaviour (map task_in (drop i ts)) x ≡ behind → x ≡ behind
    behind_all x behind past so_far = sym (at_drop_all (λ us. flow_behind behaviour (map task_in us) x) ts i past) ∙ so_far

    pub last_all : (x : Flow) (z last : Option (ℕ × State)) → length ts ≤ i → last_end behaviour (map task_in (drop i ts)) x z ≡ last → z ≡ last
    last_all x z last past so_far = sym (at_drop_all (λ us. last_end behaviour (map task_in us) x z) ts i past) ∙ so_far

pub through : {A B C : Type 0} (o : Option A) (g : A → B) (f : B → C) → option_map (λ x. f (g x)) o ≡ option_map f (option_map g o)
through None g f = refl
through (Some x) g f = refl

pub ok_is : {T E P : Type 0} (r : Result T E) → P → OnOk r P
ok_is (Ok x) p = p
ok_is (Err e) p = tt
