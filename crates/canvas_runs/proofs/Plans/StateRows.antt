-- The outcomes that evaluation with events stores are the states that evaluating the tree gives, and what goes out is the same.
use Rattle.std.proofs.Common.{◌≡◌, ◌⊎◌, ℕ, suc, ◌≤◌, ◌==◌, Bool, true, false, List, [], ◌∷◌, ◌++◌, map, Option, Some, None, refl, sym, ap, ap₂, subst, ◌∙◌, inl, inr, arith, append-nil}
use Rattle.std.specs.Prelude.{if◌then◌else◌, ℤ}
use Rattle.std.proofs.lemmas.Bool.{eqb-true, eq-eqb, ne_eqb}
use Rattle.canvas_task.specs.Apply.{Behaviour}
use Rattle.canvas_task.specs.declared.outcome.Fault.{Fault}
use Rattle.canvas_task.specs.declared.outcome.Outcome.{Outcome}
use Rattle.canvas_task.specs.declared.outcome.Outcome.TheVariants.{Success, Failure}
use Rattle.canvas_semantics.specs.Tree.{Call, Task, task, Tasks, no_tasks, and_task}
use Rattle.canvas_semantics.specs.Evaluation as eval
use Rattle.canvas_semantics.specs.Evaluation.{State, Rows, state_of, with_states, gathered, group_value, task_rows, tasks_rows, state, to_links, to_errbacks, passed_on, eval_chain, member_rows, ends, all_ends, arguments}
use Rattle.canvas_semantics.specs.FileOrder.{TaskIn, TasksIn}
use Rattle.canvas_semantics.specs.Line.{Line, stop, step, group_end, chord_end, Lines, no_lines, and_line, no_of, elements_of, members_of, all_ends_of}
use Rattle.canvas_semantics.proofs.EndLemmas.{ends_of_tree}
use Rattle.canvas_effects.specs.Effects as effects
use Rattle.canvas_effects.specs.Events.{Event, end_of_line, input_of_success, chosen}
use Rattle.canvas_history.specs.Lists.{In, Each, firsts}
use Rattle.canvas_effects.specs.Flowing.{Input, no_input, number_input, list_input, id_input, LineFlow, run, skips as skip, raise, input_flow, flow_of, after_outcome}
use Rattle.canvas_effects.specs.Job.{store, publish, part}
use Rattle.canvas_runs.proofs.Plans.Carrying.{header_same}
use Rattle.canvas_runs.proofs.Plans.Effects.{at_stop}
use Rattle.canvas_runs.proofs.Plans.Evaluation.{Items, labelled, joined, header_place, body_event, result, outs, ran, ran_all, items, items_all}
use Rattle.canvas_runs.proofs.Plans.PlanLines.{one_end}
use Rattle.canvas_runs.proofs.Plans.FileOrder.{LineIn, LinesIn}
use Rattle.canvas_runs.proofs.Plans.Messages.{Place, nowhere, in_group, in_chord, errbacks_of, lasts, header}
use Rattle.canvas_runs.proofs.Plans.Parts.{members_kept, firsts-outs}
use Rattle.canvas_runs.proofs.Plans.Rising.{Rises, rises_append}
use Rattle.canvas_runs.proofs.Plans.Trees.{AJob}
use Rattle.canvas_runs.proofs.Lists.Words.{each_weaker}

-- ---- the rows of tasks that have an outcome

abbrev had : ℕ → State → List (ℕ × Outcome) → List (ℕ × Outcome)
had k None es = es
had k (Some o) es = (k, o) ∷ es

abbrev pub kept : Rows → List (ℕ × Outcome)
kept [] = []
kept (r ∷ rows) = had r.0 r.1 (kept rows)

had_more : (k : ℕ) (s : State) (xs ys : List (ℕ × Outcome)) → had k s (xs ++ ys) ≡ had k s xs ++ ys
had_more k None xs ys = refl
had_more k (Some o) xs ys = refl

kept_more : (xs ys : Rows) → kept (xs ++ ys) ≡ kept xs ++ kept ys
kept_more [] ys = refl
kept_more (r ∷ xs) ys = ap (had r.0 r.1) (kept_more xs ys) ∙ had_more r.0 r.1 (kept xs) (kept ys)

abbrev pub stored : Items → List (ℕ × Outcome)
stored [] = []
stored ((v, store t o) ∷ is) = (t, o) ∷ stored is
stored ((v, publish m) ∷ is) = stored is
stored ((v, part g t c) ∷ is) = stored is

stored_more : (xs ys : Items) → stored (xs ++ ys) ≡ stored xs ++ stored ys
stored_more [] ys = refl
stored_more ((v, store t o) ∷ xs) ys = ap (λ es. (t, o) ∷ es) (stored_more xs ys)
stored_more ((v, publish m) ∷ xs) ys = stored_more xs ys
stored_more ((v, part g t c) ∷ xs) ys = stored_more xs ys

module _ (behaviour : Behaviour) where
  pub in_stored : (v : Event) (t : ℕ) (o : Outcome) (is : Items) → In (v, store t o) is → In (t, o) (stored is)
  in_stored v t o [] i = elim i [ ]
  in_stored v t o ((w, store u q) ∷ is) (inl e) =
      let jobs : ◌≡◌ {A = AJob} (store t o) (store u q) = ap (λ p. p.1) e in
      let tasks : t ≡ u = cc in let outs : o ≡ q = cc in inl (λ i. (tasks i, outs i))
  in_stored v t o ((w, store u q) ∷ is) (inr i) = inr (in_stored v t o is i)
  in_stored v t o ((w, publish m) ∷ is) (inl e) = absurd (let jobs : ◌≡◌ {A = AJob} (store t o) (publish m) = ap (λ p. p.1) e in cc)
  in_stored v t o ((w, publish m) ∷ is) (inr i) = in_stored v t o is i
  in_stored v t o ((w, part g u c) ∷ is) (inl e) = absurd (let jobs : ◌≡◌ {A = AJob} (store t o) (part g u c) = ap (λ p. p.1) e in cc)
  in_stored v t o ((w, part g u c) ∷ is) (inr i) = in_stored v t o is i

  pub from_stored : (t : ℕ) (o : Outcome) (is : Items) → In (t, o) (stored is) → (v : Event) × In (v, store t o) is
  from_stored t o [] i = elim i [ ]
  from_stored t o ((w, store u q) ∷ is) (inl e) =
      let tasks : t ≡ u = ap (λ p. p.0) e in let outs : o ≡ q = ap (λ p. p.1) e in (w, inl (λ i. (w, store (tasks i) (outs i))))
  from_stored t o ((w, store u q) ∷ is) (inr i) = let r = from_stored t o is i in (r.0, inr r.1)
  from_stored t o ((w, publish m) ∷ is) i = let r = from_stored t o is i in (r.0, inr r.1)
  from_stored t o ((w, part g u c) ∷ is) i = let r = from_stored t o is i in (r.0, inr r.1)

  -- ---- one task

  -- an input runs a task
  input_state : (call : Call) (x : Input) → state behaviour call (Some (input_flow x)) ≡ Some (behaviour call.name (arguments call (input_flow x)) call.kwargs)
  input_state call no_input = refl
  input_state call (number_input n) = refl
  input_state call (list_input ns) = refl
  input_state call (id_input k) = refl

pub input_fails : (k : ℕ) (x : Input) (f : Fault) → to_errbacks k (Some (input_flow x)) (Some (Failure f)) ≡ Some (eval.id k)
input_fails k no_input f = refl
input_fails k (number_input n) f = refl
input_fails k (list_input ns) f = refl
input_fails k (id_input j) f = refl

pub input_passes : (k : ℕ) (x : Input) (n : ℤ) → to_errbacks k (Some (input_flow x)) (Some (Success n)) ≡ None
input_passes k no_input n = refl
input_passes k (number_input m) n = refl
input_passes k (list_input ns) n = refl
input_passes k (id_input j) n = refl

module _ (behaviour : Behaviour) where
  mutual
    none_task : (t : Task) → kept (task_rows behaviour t None) ≡ []
    none_task (task k call ls es) = kept_more (tasks_rows behaviour ls None) (tasks_rows behaviour es None)
        ∙ ap₂ (λ a b. a ++ b) (none_tasks ls) (none_tasks es)

    none_tasks : (ts : Tasks) → kept (tasks_rows behaviour ts None) ≡ []
    none_tasks no_tasks = refl
    none_tasks (and_task t ts) = kept_more (task_rows behaviour t None) (tasks_rows behaviour ts None) ∙ ap₂ (λ a b. a ++ b) (none_task t) (none_tasks ts)

  -- a task's rows, by its state
  rows_by : (k : ℕ) (call : Call) (ls es : Tasks) (x : Option eval.Flow) (s : State) → state behaviour call x ≡ s
      → task_rows behaviour (task k call ls es) x ≡ (k, s) ∷ tasks_rows behaviour ls (to_links s) ++ tasks_rows behaviour es (to_errbacks k x s)
  rows_by k call ls es x s e = ap (λ s. (k, s) ∷ tasks_rows behaviour ls (to_links s) ++ tasks_rows behaviour es (to_errbacks k x s)) e

  -- links, or error callbacks
  chosen_rows : (k : ℕ) (ls es : Tasks) (x : Input) (o : Outcome)
      → ((n : ℤ) → kept (tasks_rows behaviour ls (Some (eval.num n))) ≡ stored (ran_all behaviour ls (number_input n) (end_of_line k)))
      → kept (tasks_rows behaviour es (Some (eval.id k))) ≡ stored (ran_all behaviour es (id_input k) (end_of_line k))
      → kept (tasks_rows behaviour ls (to_links (Some o)) ++ tasks_rows behaviour es (to_errbacks k (Some (input_flow x)) (Some o)))
      ≡ stored (chosen o (ran_all behaviour ls (input_of_success o) (end_of_line k)) (ran_all behaviour es (id_input k) (end_of_line k)))
  chosen_rows k ls es x (Success n) f g =
      kept_more (tasks_rows behaviour ls (Some (eval.num n))) (tasks_rows behaviour es (to_errbacks k (Some (input_flow x)) (Some (Success n))))
      ∙ (ap₂ (λ a b. a ++ b) (f n) (ap (λ y. kept (tasks_rows behaviour es y)) (input_passes k x n) ∙ none_tasks es)
      ∙ append-nil (stored (ran_all behaviour ls (number_input n) (end_of_line k))))
  chosen_rows k ls es x (Failure e) f g =
      kept_more (tasks_rows behaviour ls None) (tasks_rows behaviour es (to_errbacks k (Some (input_flow x)) (Some (Failure e))))
      ∙ ap₂ (λ a b. a ++ b) (none_tasks ls) (ap (λ y. kept (tasks_rows behaviour es y)) (input_fails k x e) ∙ g)

  mutual
    task_kept : (t : Task) (x : Input) (v : Event) (rest : Line) (p : Place)
        → kept (task_rows behaviour t (Some (input_flow x))) ≡ stored (ran behaviour t x v rest p)
    task_kept (task k call ls es) x v rest p =
        let o : Outcome = result behaviour (task k call ls es) x in
        ap kept (rows_by k call ls es (Some (input_flow x)) (Some o) (input_state behaviour call x))
        ∙ ap (λ rs. (k, o) ∷ rs) (chosen_rows k ls es x o (λ n. tasks_kept ls (number_input n) (end_of_line k)) (tasks_kept es (id_input k) (end_of_line k)))

    tasks_kept : (ts : Tasks) (x : Input) (v : Event) → kept (tasks_rows behaviour ts (Some (input_flow x))) ≡ stored (ran_all behaviour ts x v)
    tasks_kept no_tasks x v = refl
    tasks_kept (and_task t ts) x v =
        kept_more (task_rows behaviour t (Some (input_flow x))) (tasks_rows behaviour ts (Some (input_flow x)))
        ∙ (ap₂ (λ a b. a ++ b) (task_kept t x v stop nowhere) (tasks_kept ts x v)
        ∙ sym (stored_more (ran behaviour t x v stop nowhere) (ran_all behaviour ts x v)))

  skipped_kept : (t : Task) (f : Fault) → kept (task_rows behaviour t (Some (eval.skip f))) ≡ (no_of t, Failure f) ∷ []
  skipped_kept (task k call ls es) f =
      ap (λ rs. (k, Failure f) ∷ rs) (kept_more (tasks_rows behaviour ls None) (tasks_rows behaviour es None)
      ∙ ap₂ (λ a b. a ++ b) (none_tasks ls) (none_tasks es))

  raised_kept : (t : Task) (f : Fault) (v : Event)
      → kept (task_rows behaviour t (Some (eval.raised f))) ≡ (no_of t, Failure f) ∷ stored (ran_all behaviour (errbacks_of t) (id_input (no_of t)) v)
  raised_kept (task k call ls es) f v =
      ap (λ rs. (k, Failure f) ∷ rs) (kept_more (tasks_rows behaviour ls None) (tasks_rows behaviour es (Some (eval.id k)))
      ∙ ap₂ (λ a b. a ++ b) (none_tasks ls) (tasks_kept es (id_input k) v))

  passes : (t : Task) (x : Input) → (eval.task_meaning behaviour t (input_flow x)).out ≡ flow_of (after_outcome (result behaviour t x))
  passes (task k call ls es) x = ap passed_on (input_state behaviour call x) ∙ go (result behaviour (task k call ls es) x)
    where
      go : (o : Outcome) → passed_on (Some o) ≡ flow_of (after_outcome o)
      go (Success n) = refl
      go (Failure f) = refl

  skips : (t : Task) (f : Fault) → (eval.task_meaning behaviour t (eval.skip f)).out ≡ eval.skip f
  skips (task k call ls es) f = refl

  raises : (t : Task) (f : Fault) → (eval.task_meaning behaviour t (eval.raised f)).out ≡ eval.skip f
  raises (task k call ls es) f = refl

  meaning_rows : (t : Task) (x : eval.Flow) → (eval.task_meaning behaviour t x).rows ≡ task_rows behaviour t (Some x)
  meaning_rows (task k call ls es) x = refl

-- ---- rows are in the order of their numbers

abbrev row_key : ℕ × State → Option ℕ
row_key r = Some r.0

abbrev Up : ℕ → Rows → ℕ → Type 0
Up low rows high = Rises row_key low rows high

module _ (behaviour : Behaviour) where
  mutual
    task_up : (t : Task) (x : Option eval.Flow) (low high : ℕ) → TaskIn t low high → Up low (task_rows behaviour t x) high
    task_up (task k call ls es) x low high (l, middle, i, j) = (
      l,
      rises_append row_key (suc k) middle high (tasks_rows behaviour ls (to_links (state behaviour call x)))
          (tasks_rows behaviour es (to_errbacks k x (state behaviour call x))) (tasks_up ls (to_links (state behaviour call x)) (suc k) middle i)
          (tasks_up es (to_errbacks k x (state behaviour call x)) middle high j),
    )

    tasks_up : (ts : Tasks) (x : Option eval.Flow) (low high : ℕ) → TasksIn ts low high → Up low (tasks_rows behaviour ts x) high
    tasks_up no_tasks x low high n = n
    tasks_up (and_task t ts) x low high (middle, i, j) =
        rises_append row_key low middle high (task_rows behaviour t x) (tasks_rows behaviour ts x) (task_up t x low middle i) (tasks_up ts x middle high j)

  abbrev line_rows : Line → eval.Flow → Rows
  line_rows l x = (eval_chain behaviour (elements_of l) x).rows

  -- what goes out of a header
  abbrev header_out : Lines → eval.Flow → eval.Flow
  header_out ms x = group_value x (with_states (member_rows behaviour (members_of ms) x) (all_ends (members_of ms)))

  chord_rows : (g : ℕ) (ms : Lines) (b : Line) (x : eval.Flow)
      → line_rows (chord_end g ms b) x ≡ member_rows behaviour (members_of ms) x ++ line_rows b (header_out ms x)
  chord_rows g ms b x = append-nil (member_rows behaviour (members_of ms) x ++ line_rows b (header_out ms x))

module _ (behaviour : Behaviour) (table : ℕ → List ℕ) where
  mutual
    pub line_up : (l : Line) (x : eval.Flow) (low high : ℕ) → LineIn table l low high → Up low (line_rows behaviour l x) high
    line_up stop x low high n = n
    line_up (step t l) x low high (middle, i, j) =
        rises_append row_key low middle high (eval.task_meaning behaviour t x).rows (line_rows behaviour l (eval.task_meaning behaviour t x).out)
        (subst (λ rs. Up low rs middle) (sym (meaning_rows behaviour t x)) (task_up behaviour t (Some x) low middle i))
        (line_up l (eval.task_meaning behaviour t x).out middle high j)
    line_up (group_end g ms) x low high n =
        subst (λ rs. Up low rs high) (sym (append-nil (member_rows behaviour (members_of ms) x))) (members_up ms x low high n.0)
    line_up (chord_end g ms b) x low high (middle, i, j, e) =
        subst (λ rs. Up low rs high) (sym (chord_rows behaviour g ms b x))
        (rises_append row_key low middle high (member_rows behaviour (members_of ms) x) (line_rows behaviour b (header_out behaviour ms x))
        (members_up ms x low middle i) (line_up b (header_out behaviour ms x) middle high j))

    pub members_up : (ms : Lines) (x : eval.Flow) (low high : ℕ) → LinesIn table ms low high → Up low (member_rows behaviour (members_of ms) x) high
    members_up no_lines x low high n = n
    members_up (and_line m ms) x low high (middle, i, e, j) =
        rises_append row_key low middle high (line_rows behaviour m x) (member_rows behaviour (members_of ms) x) (line_up m x low middle i)
        (members_up ms x middle high j)

-- ---- looking up

above_low : (low : ℕ) (rows : Rows) (high : ℕ) → Up low rows high → (t : ℕ) (o : Outcome) → In (t, o) (kept rows) → low ≤ t
above_low low [] high r t o i = elim i [ ]
above_low low ((k, None) ∷ rows) high r t o i = let h = above_low (suc k) rows high r.1 t o i in omega (arith, r.0)
above_low low ((k, Some q) ∷ rows) high r t o (inl e) = let tasks : t ≡ k = ap (λ p. p.0) e in omega (arith, r.0)
above_low low ((k, Some q) ∷ rows) high r t o (inr i) = let h = above_low (suc k) rows high r.1 t o i in omega (arith, r.0)

module _ (behaviour : Behaviour) where
  pub look : (low : ℕ) (rows : Rows) (high : ℕ) → Up low rows high → (t : ℕ) (o : Outcome) → In (t, o) (kept rows) → state_of t rows ≡ Some o
  look low [] high r t o i = elim i [ ]
  look low ((k, None) ∷ rows) high r t o i =
      let h = above_low (suc k) rows high r.1 t o i in
      ap (λ b. if b then None else state_of t rows) (ne_eqb k t (λ e. omega arith)) ∙ look (suc k) rows high r.1 t o i
  look low ((k, Some q) ∷ rows) high r t o (inl e) =
      let tasks : t ≡ k = ap (λ p. p.0) e in let outs : o ≡ q = ap (λ p. p.1) e in
      ap (λ b. if b then Some q else state_of t rows) (eq-eqb k t (sym tasks)) ∙ ap (λ y. Some y) (sym outs)
  look low ((k, Some q) ∷ rows) high r t o (inr i) =
      let h = above_low (suc k) rows high r.1 t o i in
      ap (λ b. if b then Some q else state_of t rows) (ne_eqb k t (λ e. omega arith)) ∙ look (suc k) rows high r.1 t o i

  pub looked : (rows : Rows) (t : ℕ) (o : Outcome) → state_of t rows ≡ Some o → In (t, o) (kept rows)
  looked [] t o e = absurd (cc)
  looked (r ∷ rows) t o e = go r.1 refl (r.0 == t) refl e (looked rows t o)
    where
      go : (s : State) → r.1 ≡ s → (b : Bool) → (r.0 == t) ≡ b → (if b then r.1 else state_of t rows) ≡ Some o
          → (state_of t rows ≡ Some o → In (t, o) (kept rows)) → In (t, o) (had r.0 s (kept rows))
      go None f true g h w = absurd (let bad : ◌≡◌ {A = State} None (Some o) = sym f ∙ h in cc)
      go (Some q) f true g h w =
          let outs : ◌≡◌ {A = State} (Some q) (Some o) = sym f ∙ h in
          let same : o ≡ q = cc in
          let tasks : t ≡ r.0 = sym (eqb-true r.0 t g) in inl (λ i. (tasks i, same i))
      go None f false g h w = w h
      go (Some q) f false g h w = inr (w h)

-- ---- what goes out of a header

abbrev as_rows : List (ℕ × Outcome) → Rows
as_rows es = map (λ e. (e.0, Some e.1)) es

states_of : (rows : Rows) (es : List (ℕ × Outcome)) → Each (λ e. state_of e.0 rows ≡ Some e.1) es → with_states rows (firsts es) ≡ as_rows es
states_of rows [] a = refl
states_of rows (e ∷ es) a = ap₂ (λ s rs. (e.0, s) ∷ rs) a.0 (states_of rows es a.1)

-- what is gathered of outcomes is a list or raised
abbrev IsGathered : eval.Flow → Type 0
IsGathered x = flow_of (effects.into_body x) ≡ x

front_gathered : (n : ℤ) (x : eval.Flow) → ((ns : List ℤ) × (x ≡ eval.list ns)) ⊎ ((f : Fault) × (x ≡ eval.raised f))
    → ((ns : List ℤ) × (eval.in_front n x ≡ eval.list ns)) ⊎ ((f : Fault) × (eval.in_front n x ≡ eval.raised f))
front_gathered n x (inl (ns, e)) = inl (n ∷ ns, ap (eval.in_front n) e)
front_gathered n x (inr (f, e)) = inr (f, ap (eval.in_front n) e)

is_gathered : (es : List (ℕ × Outcome)) → ((ns : List ℤ) × (gathered (as_rows es) ≡ eval.list ns)) ⊎ ((f : Fault) × (gathered (as_rows es) ≡ eval.raised f))
is_gathered [] = inl ([], refl)
is_gathered ((k, Success n) ∷ es) = front_gathered n (gathered (as_rows es)) (is_gathered es)
is_gathered ((k, Failure f) ∷ es) = inr (_, refl)

back_gathered : (x : eval.Flow) → ((ns : List ℤ) × (x ≡ eval.list ns)) ⊎ ((f : Fault) × (x ≡ eval.raised f)) → IsGathered x
back_gathered x (inl (ns, e)) = ap (λ y. flow_of (effects.into_body y)) e ∙ sym e
back_gathered x (inr (f, e)) = ap (λ y. flow_of (effects.into_body y)) e ∙ sym e

header_flow : (es : List (ℕ × Outcome)) → gathered (as_rows es) ≡ flow_of (header es)
header_flow es = sym (back_gathered (gathered (as_rows es)) (is_gathered es)) ∙ ap flow_of (header_same es)

input_value : (x : Input) (rows : Rows) → group_value (input_flow x) rows ≡ gathered rows
input_value no_input rows = refl
input_value (number_input n) rows = refl
input_value (list_input ns) rows = refl
input_value (id_input k) rows = refl

joined_flow : (x : LineFlow) (es : List (ℕ × Outcome)) → group_value (flow_of x) (as_rows es) ≡ flow_of (joined x es)
joined_flow (run x) es = input_value x (as_rows es) ∙ header_flow es
joined_flow (skip f) es = refl
joined_flow (raise f) [] = refl
joined_flow (raise f) (e ∷ es) = header_flow (e ∷ es)

pair_both : (xs ys : List (ℕ × Outcome)) (is js : Items) → xs ≡ stored is → ys ≡ stored js → xs ++ ys ≡ stored (is ++ js)
pair_both xs ys is js e f = ap₂ (λ a b. a ++ b) e f ∙ sym (stored_more is js)

stop_stored : (p : Place) (k : ℕ) (v : Event) → stored (labelled v (at_stop p k)) ≡ []
stop_stored nowhere k v = refl
stop_stored (in_group g) k v = refl
stop_stored (in_chord g c) k v = refl

tree_ends : (ms : Lines) → all_ends (members_of ms) ≡ all_ends_of ms
tree_ends no_lines = refl
tree_ends (and_line m ms) = ap₂ (λ a b. a ++ b) (sym (ends_of_tree m)) (tree_ends ms)

module _ (behaviour : Behaviour) (table : ℕ → List ℕ) where
  ends_in : (ms : Lines) (low high : ℕ) → LinesIn table ms low high → all_ends_of ms ≡ lasts ms
  ends_in no_lines low high n = refl
  ends_in (and_line m ms) low high (middle, i, e, j) = ap₂ (λ a b. a ++ b) (one_end m 0 e) (ends_in ms middle high j)

  -- a header's value, by its members' outcomes
  header_value : (ms : Lines) (x : LineFlow) (low high : ℕ) → LinesIn table ms low high → all_ends_of ms ≡ lasts ms
      → kept (member_rows behaviour (members_of ms) (flow_of x)) ≡ stored (items_all behaviour ms x nowhere (end_of_line 0))
      → header_out behaviour ms (flow_of x) ≡ flow_of (joined x (outs behaviour ms x))
  header_value ms x low high n ends same =
      let rows : Rows = member_rows behaviour (members_of ms) (flow_of x) in
      let there : Each (λ e. state_of e.0 rows ≡ Some e.1) (outs behaviour ms x) =
      each_weaker (λ e k. look behaviour low rows high (members_up behaviour table ms (flow_of x) low high n) e.0 e.1
      (subst (In (e.0, e.1)) (sym same) (in_stored behaviour k.0 e.0 e.1 (items_all behaviour ms x nowhere (end_of_line 0)) k.1))) (outs behaviour ms x)
      (members_kept behaviour table ms x nowhere (end_of_line 0) low high n) in
      ap (λ ks. group_value (flow_of x) (with_states rows ks)) (tree_ends ms ∙ (ends ∙ sym (firsts-outs behaviour table ms x)))
      ∙ (ap (group_value (flow_of x)) (states_of rows (outs behaviour ms x) there) ∙ joined_flow x (outs behaviour ms x))

  mutual
    pub rows_same : (l : Line) (x : LineFlow) (p : Place) (k : ℕ) (v : Event) (low high : ℕ) → LineIn table l low high
        → kept (line_rows behaviour l (flow_of x)) ≡ stored (items behaviour l x p k v)
    rows_same stop x p k v low high n = sym (stop_stored p k v)
    rows_same (step t l) (run x) p k v low high (middle, i, j) =
        kept_more (eval.task_meaning behaviour t (input_flow x)).rows (line_rows behaviour l (eval.task_meaning behaviour t (input_flow x)).out)
        ∙ pair_both _ _ (ran behaviour t x v l p) (items behaviour l (after_outcome (result behaviour t x)) p (no_of t) (end_of_line (no_of t)))
        (ap kept (meaning_rows behaviour t (input_flow x)) ∙ task_kept behaviour t x v l p)
        (ap (λ y. kept (line_rows behaviour l y)) (passes behaviour t x)
        ∙ rows_same l (after_outcome (result behaviour t x)) p (no_of t) (end_of_line (no_of t)) middle high j)
    rows_same (step t l) (skip f) p k v low high (middle, i, j) =
        kept_more (eval.task_meaning behaviour t (eval.skip f)).rows (line_rows behaviour l (eval.task_meaning behaviour t (eval.skip f)).out)
        ∙ ap₂ (λ a b. a ++ b) (ap kept (meaning_rows behaviour t (eval.skip f)) ∙ skipped_kept behaviour t f)
        (ap (λ y. kept (line_rows behaviour l y)) (skips behaviour t f) ∙ rows_same l (skip f) p (no_of t) v middle high j)
    rows_same (step t l) (raise f) p k v low high (middle, i, j) =
        kept_more (eval.task_meaning behaviour t (eval.raised f)).rows (line_rows behaviour l (eval.task_meaning behaviour t (eval.raised f)).out)
        ∙ (ap₂ (λ a b. a ++ b) (ap kept (meaning_rows behaviour t (eval.raised f)) ∙ raised_kept behaviour t f v)
        (ap (λ y. kept (line_rows behaviour l y)) (raises behaviour t f) ∙ rows_same l (skip f) p (no_of t) v middle high j)
        ∙ ap (λ es. (no_of t, Failure f) ∷ es)
        (sym (stored_more (ran_all behaviour (errbacks_of t) (id_input (no_of t)) v) (items behaviour l (skip f) p (no_of t) v))))
    rows_same (group_end g ms) x p k v low high n = ap kept (append-nil (member_rows behaviour (members_of ms) (flow_of x)))
        ∙ members_same ms x (in_group g) v low high n.0
    rows_same (chord_end g ms b) x p k v low high (middle, i, j, e) =
        ap kept (chord_rows behaviour g ms b (flow_of x))
        ∙ (kept_more (member_rows behaviour (members_of ms) (flow_of x)) (line_rows behaviour b (header_out behaviour ms (flow_of x)))
        ∙ pair_both _ _ (items_all behaviour ms x (header_place x g ms b p) v) (items behaviour b (joined x (outs behaviour ms x)) p 0 (body_event x ms g v))
        (members_same ms x (header_place x g ms b p) v low middle i)
        (ap (λ y. kept (line_rows behaviour b y))
        (header_value ms x low middle i (ends_in ms low middle i) (members_same ms x nowhere (end_of_line 0) low middle i))
        ∙ rows_same b (joined x (outs behaviour ms x)) p 0 (body_event x ms g v) middle high j))

    members_same : (ms : Lines) (x : LineFlow) (p : Place) (v : Event) (low high : ℕ) → LinesIn table ms low high
        → kept (member_rows behaviour (members_of ms) (flow_of x)) ≡ stored (items_all behaviour ms x p v)
    members_same no_lines x p v low high n = refl
    members_same (and_line m ms) x p v low high (middle, i, e, j) =
        kept_more (line_rows behaviour m (flow_of x)) (member_rows behaviour (members_of ms) (flow_of x))
        ∙ pair_both _ _ (items behaviour m x p 0 v) (items_all behaviour ms x p v) (rows_same m x p 0 v low middle i) (members_same ms x p v middle high j)
