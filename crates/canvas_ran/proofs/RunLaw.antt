-- The tasks that evaluation calls are those whose messages evaluation with events publishes, in the order of the file.
use Rattle.std.proofs.Common.{◌≡◌, ◌∙◌, ◌⊎◌, ℕ, ◌+◌, Bool, true, false, List, [], ◌∷◌, ◌++◌, map, Some, None, refl, sym, ap, ap₂, subst, inl, inr, append-nil}
use Rattle.std.specs.Prelude.{ℤ}
use Rattle.canvas_task.specs.Apply.{Behaviour}
use Rattle.canvas_task.specs.declared.outcome.Fault.{Fault}
use Rattle.canvas_task.specs.declared.outcome.Outcome.{Outcome}
use Rattle.canvas_task.specs.declared.outcome.Outcome.TheVariants.{Success, Failure}
use Rattle.canvas_semantics.specs.Tree.{Call, Task, task, Tasks, no_tasks, and_task}
use Rattle.canvas_semantics.specs.Evaluation as eval
use Rattle.canvas_semantics.specs.Evaluation.{Flow, Rows, state_of, with_states, state, to_links, to_errbacks, passed_on, gathered, group_value, task_rows, task_meaning, all_ends}
use Rattle.canvas_semantics.specs.FileOrder.{LineIn, LinesIn, EndsInTask}
use Rattle.canvas_semantics.specs.Line.{Line, stop, step, group_end, chord_end, Lines, no_lines, and_line, no_of, members_of, ends_of, all_ends_of, count_line, members}
use Rattle.canvas_semantics.specs.PlacedLine.{PPlace, p_nowhere, p_group, p_chord, bare}
use Rattle.canvas_semantics.proofs.EndLemmas.{ends_of_tree}
use Rattle.canvas_rewrite.specs.FrozenView.{PCarried}
use Rattle.canvas_rewrite.specs.Planned.{IsPlan}
use Rattle.canvas_rewrite.proofs.InOrder.{plan_in_order}
use Rattle.canvas_history.specs.Lists.{In}
use Rattle.canvas_envelope.specs.Content.{Content, number_of}
use Rattle.canvas_effects.specs.Effects as effects
use Rattle.canvas_effects.specs.Effects.{part_of, header_flow}
use Rattle.canvas_effects.specs.Events.{Event, start, end_of_line, EventJobs, labelled, flow_outcome, group_flow, header_place, body_event, chosen, input_of_success, outcome_with, out, outs, ran, ran_all, events_in_file, items_all, evaluated}
use Rattle.canvas_effects.specs.Flowing.{Input, no_input, number_input, list_input, id_input, LineFlow, run, skips, raise, input_flow, flow_of, after_outcome}
use Rattle.canvas_effects.specs.Job.{Job, store, publish, part}
use Rattle.canvas_effects.specs.Placing.{last_task}
use Rattle.canvas_runs.proofs.Laws.EventStates.{event_states}
use Rattle.canvas_runs.proofs.Plans.StateRows.{input_fails, input_passes}
use Rattle.canvas_report.specs.Fates.{Fates}
use Rattle.canvas_ran.specs.Ran.{fate, blamed_behind, blamed_for, task_fates, tasks_fates, header_out, line_fates, lines_fates, fates}
use Rattle.canvas_ran.specs.RanLaws.{RanIsRun}
use Rattle.canvas_report.specs.declared.fate.Fate.{Fate}
use Rattle.canvas_report.specs.declared.fate.Fate.TheVariants.{Ran, Skipped, Idle}
use Rattle.canvas_ran.proofs.RanLaw.{Holds, holds_left, holds_right, same_states, line_rows, all_rows, members_there, plan_holds}

abbrev AJob : Type 0
AJob = Job Content PCarried Outcome

no_store : {c : Content} {t : ℕ} {o : Outcome} → ◌≡◌ {A = AJob} (publish c) (store t o) → ⊥
no_store e = cc

no_part : {c : Content} {g t : ℕ} {d : PCarried} → ◌≡◌ {A = AJob} (publish c) (part g t d) → ⊥
no_part e = cc

-- ---- the tasks that are published, and those that are called

abbrev published : EventJobs → List ℕ
published [] = []
published ((v, publish m) ∷ js) = number_of m.own ∷ published js
published ((v, store t o) ∷ js) = published js
published ((v, part g t c) ∷ js) = published js

published_more : (xs ys : EventJobs) → published (xs ++ ys) ≡ published xs ++ published ys
published_more [] ys = refl
published_more ((v, publish m) ∷ xs) ys = ap (λ ks. number_of m.own ∷ ks) (published_more xs ys)
published_more ((v, store t o) ∷ xs) ys = published_more xs ys
published_more ((v, part g t c) ∷ xs) ys = published_more xs ys

abbrev if_ran : ℕ → Fate → List ℕ → List ℕ
if_ran k Ran ks = k ∷ ks
if_ran k (Skipped d) ks = ks
if_ran k Idle ks = ks

abbrev ran_in : Fates → List ℕ
ran_in [] = []
ran_in (f ∷ fs) = if_ran f.0 f.1 (ran_in fs)

if_ran_more : (k : ℕ) (f : Fate) (xs ys : List ℕ) → if_ran k f (xs ++ ys) ≡ if_ran k f xs ++ ys
if_ran_more k Ran xs ys = refl
if_ran_more k (Skipped d) xs ys = refl
if_ran_more k Idle xs ys = refl

ran_more : (xs ys : Fates) → ran_in (xs ++ ys) ≡ ran_in xs ++ ran_in ys
ran_more [] ys = refl
ran_more (f ∷ xs) ys = ap (if_ran f.0 f.1) (ran_more xs ys) ∙ if_ran_more f.0 f.1 (ran_in xs) (ran_in ys)

-- one list after another, on both sides
both : (xs ys : EventJobs) (fs gs : Fates) → published xs ≡ ran_in fs → published ys ≡ ran_in gs
    → published (xs ++ ys) ≡ ran_in (fs ++ gs)
both xs ys fs gs e f = published_more xs ys ∙ (ap₂ (λ a b. a ++ b) e f ∙ sym (ran_more fs gs))

-- ---- stores that a table has

abbrev Kept : Rows → EventJobs → Type 0
Kept w [] = Unit {0}
Kept w ((v, publish m) ∷ js) = Kept w js
Kept w ((v, store t o) ∷ js) = (state_of t w ≡ Some o) × Kept w js
Kept w ((v, part g t c) ∷ js) = Kept w js

kept_left : (w : Rows) (xs ys : EventJobs) → Kept w (xs ++ ys) → Kept w xs
kept_left w [] ys h = tt
kept_left w ((v, publish m) ∷ xs) ys h = kept_left w xs ys h
kept_left w ((v, store t o) ∷ xs) ys h = (h.0, kept_left w xs ys h.1)
kept_left w ((v, part g t c) ∷ xs) ys h = kept_left w xs ys h

kept_right : (w : Rows) (xs ys : EventJobs) → Kept w (xs ++ ys) → Kept w ys
kept_right w [] ys h = h
kept_right w ((v, publish m) ∷ xs) ys h = kept_right w xs ys h
kept_right w ((v, store t o) ∷ xs) ys h = kept_right w xs ys h.1
kept_right w ((v, part g t c) ∷ xs) ys h = kept_right w xs ys h

kept_all : (w : Rows) (js : EventJobs) → ((v : Event) (t : ℕ) (o : Outcome) → In (v, store t o) js
    → state_of t w ≡ Some o) → Kept w js
kept_all w [] h = tt
kept_all w ((v, publish m) ∷ js) h = kept_all w js (λ u t o i. h u t o (inr i))
kept_all w ((v, store t o) ∷ js) h = (h v t o (inl refl), kept_all w js (λ u s q i. h u s q (inr i)))
kept_all w ((v, part g t c) ∷ js) h = kept_all w js (λ u s q i. h u s q (inr i))

-- ---- one task

input_ran : (x : Input) (d : ℕ) → fate d (Some (input_flow x)) ≡ Ran
input_ran no_input d = refl
input_ran (number_input n) d = refl
input_ran (list_input ns) d = refl
input_ran (id_input k) d = refl

module _ (behaviour : Behaviour) where
  input_state : (k : ℕ) (call : Call) (ls es : Tasks) (x : Input)
      → state behaviour call (Some (input_flow x)) ≡ Some (outcome_with behaviour (task k call ls es) x)
  input_state k call ls es no_input = refl
  input_state k call ls es (number_input n) = refl
  input_state k call ls es (list_input ns) = refl
  input_state k call ls es (id_input j) = refl

  passes : (t : Task) (x : Input) → (task_meaning behaviour t (input_flow x)).out ≡ flow_of
      (after_outcome (outcome_with behaviour t x))
  passes (task k call ls es) x = ap passed_on (input_state k call ls es x)
      ∙ go (outcome_with behaviour (task k call ls es) x)
    where
      go : (o : Outcome) → passed_on (Some o) ≡ flow_of (after_outcome o)
      go (Success n) = refl
      go (Failure f) = refl

  mutual
    idle_task : (t : Task) (d : ℕ) → ran_in (task_fates behaviour t None d) ≡ []
    idle_task (task k call ls es) d =
        ran_more (tasks_fates behaviour ls None d) (tasks_fates behaviour es None d)
        ∙ ap₂ (λ a b. a ++ b) (idle_tasks ls d) (idle_tasks es d)

    idle_tasks : (ts : Tasks) (d : ℕ) → ran_in (tasks_fates behaviour ts None d) ≡ []
    idle_tasks no_tasks d = refl
    idle_tasks (and_task t ts) d =
        ran_more (task_fates behaviour t None d) (tasks_fates behaviour ts None d)
        ∙ ap₂ (λ a b. a ++ b) (idle_task t d) (idle_tasks ts d)

  -- links, or error callbacks
  chosen_fates : (k : ℕ) (ls es : Tasks) (x : Input) (d : ℕ) (o : Outcome)
      → ((n : ℤ) → published (ran_all behaviour ls (number_input n) (end_of_line k)) ≡ ran_in
      (tasks_fates behaviour ls (Some (eval.num n)) d))
      → published (ran_all behaviour es (id_input k) (end_of_line k)) ≡ ran_in
      (tasks_fates behaviour es (Some (eval.id k)) d)
      → published (chosen o (ran_all behaviour ls (input_of_success o) (end_of_line k))
      (ran_all behaviour es (id_input k) (end_of_line k)))
      ≡ ran_in (tasks_fates behaviour ls (to_links (Some o)) d ++ tasks_fates behaviour es
      (to_errbacks k (Some (input_flow x)) (Some o)) d)
  chosen_fates k ls es x d (Success n) f g =
      sym (ran_more (tasks_fates behaviour ls (Some (eval.num n)) d)
      (tasks_fates behaviour es (to_errbacks k (Some (input_flow x)) (Some (Success n))) d)
      ∙ (ap₂ (λ a b. a ++ b) (sym (f n)) (ap (λ y. ran_in (tasks_fates behaviour es y d)) (input_passes k x n)
      ∙ idle_tasks es d)
      ∙ append-nil (published (ran_all behaviour ls (number_input n) (end_of_line k)))))
  chosen_fates k ls es x d (Failure e) f g =
      sym (ran_more (tasks_fates behaviour ls None d) (tasks_fates behaviour es
      (to_errbacks k (Some (input_flow x)) (Some (Failure e))) d)
      ∙ ap₂ (λ a b. a ++ b) (idle_tasks ls d) (ap (λ y. ran_in (tasks_fates behaviour es y d)) (input_fails k x e)
      ∙ sym g))

  mutual
    task_same : (t : Task) (x : Input) (v : Event) (rest : Line) (p : PPlace) (d : ℕ)
        → published (ran behaviour t x v rest p) ≡ ran_in (task_fates behaviour t (Some (input_flow x)) d)
    task_same (task k call ls es) x v rest p d =
        let o : Outcome = outcome_with behaviour (task k call ls es) x in
        let own : Fate = fate d (Some (input_flow x)) in
        ap (λ ks. k ∷ ks)
        (chosen_fates k ls es x d o (λ n. tasks_same ls (number_input n) (end_of_line k) d)
        (tasks_same es (id_input k) (end_of_line k) d)
        ∙ ap (λ s. ran_in (tasks_fates behaviour ls (to_links s) d ++ tasks_fates behaviour es
        (to_errbacks k (Some (input_flow x)) s) d))
        (sym (input_state k call ls es x)))
        ∙ ap (λ f. if_ran k f (ran_in (tasks_fates behaviour ls
        (to_links (state behaviour call (Some (input_flow x)))) d
        ++ tasks_fates behaviour es (to_errbacks k (Some (input_flow x))
        (state behaviour call (Some (input_flow x)))) d)))
        (sym (input_ran x d))

    tasks_same : (ts : Tasks) (x : Input) (v : Event) (d : ℕ)
        → published (ran_all behaviour ts x v) ≡ ran_in (tasks_fates behaviour ts (Some (input_flow x)) d)
    tasks_same no_tasks x v d = refl
    tasks_same (and_task t ts) x v d =
        both (ran behaviour t x v stop p_nowhere) (ran_all behaviour ts x v)
        (task_fates behaviour t (Some (input_flow x)) d)
        (tasks_fates behaviour ts (Some (input_flow x)) d) (task_same t x v stop p_nowhere d) (tasks_same ts x v d)

-- ---- the last tasks of lines

mutual
  one_end : (t : Task) (l : Line) → EndsInTask true l → ends_of (step t l) ≡ last_task (no_of t) (bare l) ∷ []
  one_end t stop e = refl
  one_end t (step (task k call ls es) l) e = one_end (task k call ls es) l e
  one_end t (group_end g ms) e = absurd e
  one_end t (chord_end g ms b) e = one_line b e

  one_line : (l : Line) → EndsInTask false l → ends_of l ≡ last_task 0 (bare l) ∷ []
  one_line stop e = absurd (cc)
  one_line (step (task k call ls es) l) e = one_end (task k call ls es) l e
  one_line (group_end g ms) e = absurd e
  one_line (chord_end g ms b) e = one_line b e

outcome_back : (o : Outcome) → o ≡ flow_outcome (after_outcome o)
outcome_back (Success n) = refl
outcome_back (Failure f) = refl

abbrev as_rows : List (ℕ × Outcome) → Rows
as_rows es = map (λ e. (e.0, Some e.1)) es

module _ (behaviour : Behaviour) (w : Rows) where
  end_state : (b : Bool) (l : Line) (x : LineFlow) (p : PPlace) (k : ℕ) (v : Event) → EndsInTask b l
      → (b ≡ true → state_of k w ≡ Some (flow_outcome x)) → Kept w (events_in_file behaviour l x p k v)
      → state_of (last_task k (bare l)) w ≡ Some (flow_outcome (out behaviour l x))
  end_state b stop x p k v e h i = h e
  end_state b (step (task j call ls es) rest) (run x) p k v e h i =
      let t : Task = task j call ls es in
      let o : Outcome = outcome_with behaviour t x in
      end_state true rest (after_outcome o) p j (end_of_line j) e (λ _. i.0 ∙ ap (λ q. Some q) (outcome_back o))
      (kept_right w (ran behaviour t x v rest p) (events_in_file behaviour rest (after_outcome o) p j
      (end_of_line j)) i)
  end_state b (step (task j call ls es) rest) (skips f) p k v e h i =
      end_state true rest (skips f) p j v e (λ _. i.0) i.1
  end_state b (step (task j call ls es) rest) (raise f) p k v e h i =
      end_state true rest (skips f) p j v e (λ _. i.0)
      (kept_right w (ran_all behaviour es (id_input j) v) (events_in_file behaviour rest (skips f) p j v) i.1)
  end_state b (group_end g ms) x p k v e h i = absurd e
  end_state b (chord_end g ms body) x p k v e h i =
      end_state false body (group_flow x (outs behaviour ms x)) p 0 (body_event x ms g v) e (λ n. absurd (cc))
      (kept_right w (items_all behaviour ms x (header_place x g ms body p) v)
      (events_in_file behaviour body (group_flow x (outs behaviour ms x)) p 0 (body_event x ms g v)) i)

  members_end : (table : ℕ → List ℕ) (ms : Lines) (x : LineFlow) (p : PPlace) (v : Event) (low high : ℕ)
      → LinesIn table ms low high
      → Kept w (items_all behaviour ms x p v) → with_states w (all_ends_of ms) ≡ as_rows (outs behaviour ms x)
  members_end table no_lines x p v low high n i = refl
  members_end table (and_line m ms) x p v low high (middle, j, e, n) i =
      let k : ℕ = last_task 0 (bare m) in
      let own : state_of k w ≡ Some (flow_outcome (out behaviour m x)) =
      end_state false m x p 0 v e (λ f. absurd (cc)) (kept_left w (events_in_file behaviour m x p 0 v)
      (items_all behaviour ms x p v) i)
      in
      ap (λ ks. with_states w (ks ++ all_ends_of ms)) (one_line m e)
      ∙ ap₂ (λ s rs. (k, s) ∷ rs) own
      (members_end table ms x p v middle high n (kept_right w (events_in_file behaviour m x p 0 v)
      (items_all behaviour ms x p v) i))

-- ---- what goes out of a header

front_gathered : (n : ℤ) (x : Flow) → ((ns : List ℤ) × (x ≡ eval.list ns)) ⊎ ((f : Fault) × (x ≡ eval.raised f))
    → ((ns : List ℤ) × (eval.in_front n x ≡ eval.list ns)) ⊎ ((f : Fault) × (eval.in_front n x ≡ eval.raised f))
front_gathered n x (inl (ns, e)) = inl (n ∷ ns, ap (eval.in_front n) e)
front_gathered n x (inr (f, e)) = inr (f, ap (eval.in_front n) e)

is_gathered : (es : List (ℕ × Outcome)) → ((ns : List ℤ) × (gathered (as_rows es) ≡ eval.list ns)) ⊎
    ((f : Fault) × (gathered (as_rows es) ≡ eval.raised f))
is_gathered [] = inl ([], refl)
is_gathered ((k, Success n) ∷ es) = front_gathered n (gathered (as_rows es)) (is_gathered es)
is_gathered ((k, Failure f) ∷ es) = inr (_, refl)

back_gathered : (x : Flow) → ((ns : List ℤ) × (x ≡ eval.list ns)) ⊎ ((f : Fault) × (x ≡ eval.raised f))
    → x ≡ flow_of (effects.into_body x)
back_gathered x (inl (ns, e)) = e ∙ sym (ap (λ y. flow_of (effects.into_body y)) e)
back_gathered x (inr (f, e)) = e ∙ sym (ap (λ y. flow_of (effects.into_body y)) e)

of_header : (es : List (ℕ × Outcome)) → gathered (as_rows es) ≡ flow_of (header_flow es)
of_header es = back_gathered (gathered (as_rows es)) (is_gathered es)

input_value : (x : Input) (rows : Rows) → group_value (input_flow x) rows ≡ gathered rows
input_value no_input rows = refl
input_value (number_input n) rows = refl
input_value (list_input ns) rows = refl
input_value (id_input k) rows = refl

joined_flow : (x : LineFlow) (es : List (ℕ × Outcome)) → group_value (flow_of x) (as_rows es) ≡ flow_of
    (group_flow x es)
joined_flow (run x) es = input_value x (as_rows es) ∙ of_header es
joined_flow (skips f) es = refl
joined_flow (raise f) [] = refl
joined_flow (raise f) (e ∷ es) = of_header (e ∷ es)

-- ---- lines

stop_same : (v : Event) (p : PPlace) (k : ℕ) → published (labelled v (part_of p k)) ≡ []
stop_same v p_nowhere k = refl
stop_same v (p_group g) k = refl
stop_same v (p_chord g n b) k = refl

module _ (behaviour : Behaviour) (w : Rows) (table : ℕ → List ℕ) where
  header_same : (g : ℕ) (ms : Lines) (x : LineFlow) (p : PPlace) (v : Event) (low high : ℕ) → LinesIn table ms low high
      → Holds w (all_rows behaviour ms (flow_of x)) → Kept w (items_all behaviour ms x p v)
      → header_out behaviour ms (flow_of x) ≡ flow_of (group_flow x (outs behaviour ms x))
  header_same g ms x p v low high n h i =
      let rows : Rows = all_rows behaviour ms (flow_of x) in
      let ends : with_states rows (all_ends (members_of ms)) ≡ as_rows (outs behaviour ms x) =
      sym (ap (with_states rows) (ends_of_tree (group_end g ms)))
      ∙ (sym (same_states w rows (all_ends_of ms) h (members_there behaviour ms (flow_of x)))
      ∙ members_end behaviour w table ms x p v low high n i)
      in
      ap (group_value (flow_of x)) ends ∙ joined_flow x (outs behaviour ms x)

  mutual
    line_same : (l : Line) (x : LineFlow) (p : PPlace) (k : ℕ) (v : Event) (d low high : ℕ) → LineIn table l low high
        → Holds w (line_rows behaviour l (flow_of x)) → Kept w (events_in_file behaviour l x p k v)
        → published (events_in_file behaviour l x p k v) ≡ ran_in (line_fates behaviour l (flow_of x) d)
    line_same stop x p k v d low high n h i = stop_same v p k
    line_same (step (task j call ls es) rest) (run x) p k v d low high (middle, m, n) h i =
        let t : Task = task j call ls es in
        let after : LineFlow = after_outcome (outcome_with behaviour t x) in
        let out : Flow = (task_meaning behaviour t (input_flow x)).out in
        let blamed : ℕ = blamed_behind j d (input_flow x) in
        let h' : Holds w (line_rows behaviour rest (flow_of after)) =
        subst (λ y. Holds w (line_rows behaviour rest y)) (passes behaviour t x)
        (holds_right w (task_rows behaviour t (Some (input_flow x))) (line_rows behaviour rest out) h)
        in
        let i' : Kept w (events_in_file behaviour rest after p j (end_of_line j)) =
        kept_right w (ran behaviour t x v rest p) (events_in_file behaviour rest after p j (end_of_line j)) i
        in
        both (ran behaviour t x v rest p) (events_in_file behaviour rest after p j (end_of_line j))
        (task_fates behaviour t (Some (input_flow x)) d) (line_fates behaviour rest out blamed)
        (task_same behaviour t x v rest p d)
        (line_same rest after p j (end_of_line j) blamed middle high n h' i'
        ∙ ap (λ y. ran_in (line_fates behaviour rest y blamed)) (sym (passes behaviour t x)))
    line_same (step (task j call ls es) rest) (skips f) p k v d low high (middle, m, n) h i =
        let t : Task = task j call ls es in
        let idle : ran_in (tasks_fates behaviour ls None d ++ tasks_fates behaviour es None d) ≡ [] =
        ran_more (tasks_fates behaviour ls None d) (tasks_fates behaviour es None d)
        ∙ ap₂ (λ a b. a ++ b) (idle_tasks behaviour ls d) (idle_tasks behaviour es d)
        in
        line_same rest (skips f) p j v d middle high n
        (holds_right w (task_rows behaviour t (Some (eval.skip f))) (line_rows behaviour rest (eval.skip f)) h) i.1
        ∙ sym (ran_more (tasks_fates behaviour ls None d ++ tasks_fates behaviour es None d)
        (line_fates behaviour rest (eval.skip f) d)
        ∙ ap (λ ks. ks ++ ran_in (line_fates behaviour rest (eval.skip f) d)) idle)
    line_same (step (task j call ls es) rest) (raise f) p k v d low high (middle, m, n) h i =
        let t : Task = task j call ls es in
        let errbacks : published (ran_all behaviour es (id_input j) v)
        ≡ ran_in (tasks_fates behaviour ls None d ++ tasks_fates behaviour es (Some (eval.id j)) d) =
        tasks_same behaviour es (id_input j) v d
        ∙ sym (ran_more (tasks_fates behaviour ls None d) (tasks_fates behaviour es (Some (eval.id j)) d)
        ∙ ap (λ ks. ks ++ ran_in (tasks_fates behaviour es (Some (eval.id j)) d)) (idle_tasks behaviour ls d))
        in
        both (ran_all behaviour es (id_input j) v) (events_in_file behaviour rest (skips f) p j v)
        (tasks_fates behaviour ls None d ++ tasks_fates behaviour es (Some (eval.id j)) d)
        (line_fates behaviour rest (eval.skip f) d)
        errbacks
        (line_same rest (skips f) p j v d middle high n
        (holds_right w (task_rows behaviour t (Some (eval.raised f))) (line_rows behaviour rest (eval.skip f)) h)
        (kept_right w (ran_all behaviour es (id_input j) v) (events_in_file behaviour rest (skips f) p j v) i.1))
    line_same (group_end g ms) x p k v d low high n h i =
        members_same ms x (p_group g) v d low high n.0 (holds_left w (all_rows behaviour ms (flow_of x)) [] h) i
    line_same (chord_end g ms b) x p k v d low high (middle, m, n, e) h i =
        let y : LineFlow = group_flow x (outs behaviour ms x) in
        let out : Flow = header_out behaviour ms (flow_of x) in
        let place : PPlace = header_place x g ms b p in
        let next : Event = body_event x ms g v in
        let all : Holds w (all_rows behaviour ms (flow_of x) ++ line_rows behaviour b out) =
        holds_left w (all_rows behaviour ms (flow_of x) ++ line_rows behaviour b out) [] h
        in
        let of_members : Holds w (all_rows behaviour ms (flow_of x)) =
        holds_left w (all_rows behaviour ms (flow_of x)) (line_rows behaviour b out) all in
        let kept : Kept w (items_all behaviour ms x place v) =
        kept_left w (items_all behaviour ms x place v) (events_in_file behaviour b y p 0 next) i in
        let same : out ≡ flow_of y = header_same g ms x place v low middle m of_members kept in
        let of_body : Holds w (line_rows behaviour b (flow_of y)) =
        subst (λ z. Holds w (line_rows behaviour b z)) same
        (holds_right w (all_rows behaviour ms (flow_of x)) (line_rows behaviour b out) all)
        in
        both (items_all behaviour ms x place v) (events_in_file behaviour b y p 0 next)
        (lines_fates behaviour ms (flow_of x) d) (line_fates behaviour b out (blamed_for d out))
        (members_same ms x place v d low middle m of_members kept)
        (line_same b y p 0 next (blamed_for d out) middle high n of_body
        (kept_right w (items_all behaviour ms x place v) (events_in_file behaviour b y p 0 next) i)
        ∙ ap (λ z. ran_in (line_fates behaviour b z (blamed_for d out))) (sym same))

    members_same : (ms : Lines) (x : LineFlow) (p : PPlace) (v : Event) (d low high : ℕ) → LinesIn table ms low high
        → Holds w (all_rows behaviour ms (flow_of x)) → Kept w (items_all behaviour ms x p v)
        → published (items_all behaviour ms x p v) ≡ ran_in (lines_fates behaviour ms (flow_of x) d)
    members_same no_lines x p v d low high n h i = refl
    members_same (and_line m ms) x p v d low high (middle, j, e, n) h i =
        both (events_in_file behaviour m x p 0 v) (items_all behaviour ms x p v) (line_fates behaviour m (flow_of x) d)
        (lines_fates behaviour ms (flow_of x) d)
        (line_same m x p 0 v d low middle j (holds_left w (line_rows behaviour m (flow_of x))
        (all_rows behaviour ms (flow_of x)) h)
        (kept_left w (events_in_file behaviour m x p 0 v) (items_all behaviour ms x p v) i))
        (members_same ms x p v d middle high n (holds_right w (line_rows behaviour m (flow_of x))
        (all_rows behaviour ms (flow_of x)) h)
        (kept_right w (events_in_file behaviour m x p 0 v) (items_all behaviour ms x p v) i))

-- ---- whole plans

in_published : (k : ℕ) (js : EventJobs) → In k (published js)
    → (c : Content) × (number_of c.own ≡ k) × ((v : Event) × In (v, publish c) js)
in_published k [] i = absurd i
in_published k ((v, publish m) ∷ js) (inl e) = (m, sym e, (v, inl refl))
in_published k ((v, publish m) ∷ js) (inr i) = let r = in_published k js i in (r.0, r.1, (r.2.0, inr r.2.1))
in_published k ((v, store t o) ∷ js) i = let r = in_published k js i in (r.0, r.1, (r.2.0, inr r.2.1))
in_published k ((v, part g t c) ∷ js) i = let r = in_published k js i in (r.0, r.1, (r.2.0, inr r.2.1))

of_published : (c : Content) (v : Event) (js : EventJobs) → In (v, publish c) js → In (number_of c.own) (published js)
of_published c v [] i = absurd i
of_published c v ((u, publish m) ∷ js) (inl e) =
    let jobs : ◌≡◌ {A = AJob} (publish c) (publish m) = ap (λ q. q.1) e in
    let same : c ≡ m = cc in
    inl (ap (λ d. number_of d.own) same)
of_published c v ((u, publish m) ∷ js) (inr i) = inr (of_published c v js i)
of_published c v ((u, store t o) ∷ js) (inl e) = absurd (no_store (ap (λ q. q.1) e))
of_published c v ((u, store t o) ∷ js) (inr i) = of_published c v js i
of_published c v ((u, part g t d) ∷ js) (inl e) = absurd (no_part (ap (λ q. q.1) e))
of_published c v ((u, part g t d) ∷ js) (inr i) = of_published c v js i

in_ran : (k : ℕ) (fs : Fates) → In k (ran_in fs) → In (k, Ran) fs
in_ran k [] i = absurd i
in_ran k ((j, Ran) ∷ fs) (inl e) = inl (λ n. (e n, Ran))
in_ran k ((j, Ran) ∷ fs) (inr i) = inr (in_ran k fs i)
in_ran k ((j, Skipped d) ∷ fs) i = inr (in_ran k fs i)
in_ran k ((j, Idle) ∷ fs) i = inr (in_ran k fs i)

of_ran : (k : ℕ) (fs : Fates) → In (k, Ran) fs → In k (ran_in fs)
of_ran k [] i = absurd i
of_ran k ((j, Ran) ∷ fs) (inl e) = inl (ap (λ f. f.0) e)
of_ran k ((j, Ran) ∷ fs) (inr i) = inr (of_ran k fs i)
of_ran k ((j, Skipped d) ∷ fs) (inl e) = absurd (let bad : ◌≡◌ {A = Fate} Ran (Skipped d) = ap (λ f. f.1) e in cc)
of_ran k ((j, Skipped d) ∷ fs) (inr i) = of_ran k fs i
of_ran k ((j, Idle) ∷ fs) (inl e) = absurd (let bad : ◌≡◌ {A = Fate} Ran Idle = ap (λ f. f.1) e in cc)
of_ran k ((j, Idle) ∷ fs) (inr i) = of_ran k fs i

all_same : (behaviour : Behaviour) (l : Line) → IsPlan l
    → published (evaluated behaviour l) ≡ ran_in (fates behaviour l)
all_same behaviour l plan =
    let w : Rows = line_rows behaviour l eval.nothing in
    line_same behaviour w (λ g. members l g) l (run no_input) p_nowhere 0 start 0 1 (1 + count_line l)
    (plan_in_order l plan) (plan_holds behaviour l plan)
    (kept_all w (evaluated behaviour l) (λ v t o i. (event_states behaviour l plan).of_stored t o (v, i)))

pub ran_is_run : (behaviour : Behaviour) (l : Line) → IsPlan l → RanIsRun behaviour l
ran_is_run behaviour l plan = record {
  published = λ k i. in_published k (evaluated behaviour l)
      (subst (λ ks. In k ks) (sym (all_same behaviour l plan)) (of_ran k (fates behaviour l) i));
  called = λ k r. in_ran k (fates behaviour l) (subst (λ ks. In k ks) (all_same behaviour l plan)
      (subst (λ n. In n (published (evaluated behaviour l))) r.1
      (of_published r.0 r.2.0 (evaluated behaviour l) r.2.1)));
}
