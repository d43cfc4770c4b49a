-- The task to blame comes before those that are skipped.
use Rattle.std.proofs.Common.{◌≡◌, ℕ, suc, ◌+◌, ◌≤◌, ◌<◌, List, [], ◌∷◌, ◌++◌, Option, Some, None, refl, sym, subst, inl, inr, arith}
use Rattle.std.specs.Prelude.{ℤ}
use Rattle.canvas_task.specs.Apply.{Behaviour}
use Rattle.canvas_task.specs.declared.outcome.Outcome.{Outcome}
use Rattle.canvas_task.specs.declared.outcome.Outcome.TheVariants.{Success, Failure}
use Rattle.canvas_history.specs.Lists.{In, Each}
use Rattle.canvas_semantics.specs.Tree.{Call, Task, task, Tasks, no_tasks, and_task}
use Rattle.canvas_semantics.specs.Evaluation.{Flow, nothing, num, list, id, skip, raised, State, Rows, state_of, with_states, state, to_links, to_errbacks, passed_on, in_front, gathered, group_value, all_ends}
use Rattle.canvas_semantics.specs.FileOrder.{TaskIn, TasksIn, LineIn, LinesIn}
use Rattle.canvas_semantics.specs.Line.{Line, stop, step, group_end, chord_end, Lines, no_lines, and_line, no_of, members_of, ends_of, all_ends_of, members, count_line}
use Rattle.canvas_semantics.proofs.EndLemmas.{ends_of_tree}
use Rattle.canvas_rewrite.specs.Planned.{IsPlan}
use Rattle.canvas_rewrite.proofs.InOrder.{plan_in_order}
use Rattle.canvas_runs.proofs.Lists.Words.{each_append, each_weaker}
use Rattle.canvas_report.specs.Fates.{Fates}
use Rattle.canvas_ran.specs.Ran.{fate, blamed_behind, blamed_for, task_fates, tasks_fates, header_out, line_fates, lines_fates, fates}
use Rattle.canvas_ran.specs.RanLaws.{BlamedBefore}
use Rattle.canvas_report.specs.declared.fate.Fate.{Fate}
use Rattle.canvas_report.specs.declared.fate.Fate.TheVariants.{Ran, Skipped, Idle}
use Rattle.canvas_ran.proofs.RanLaw.{all_rows, IsNoFault, links_get, errbacks_get, fine_passed, fine_out}

-- ---- numbers in file order

mutual
  task_lt : (t : Task) (low high : ℕ) → TaskIn t low high → no_of t < high
  task_lt (task k call ls es) low high (a, middle, i, j) =
      omega (arith, a, tasks_le ls (suc k) middle i, tasks_le es middle high j)

  tasks_le : (ts : Tasks) (low high : ℕ) → TasksIn ts low high → low ≤ high
  tasks_le no_tasks low high n = n
  tasks_le (and_task t ts) low high (middle, i, j) = omega
      (arith, task_from t low middle i, task_lt t low middle i, tasks_le ts middle high j)

  task_from : (t : Task) (low high : ℕ) → TaskIn t low high → low ≤ no_of t
  task_from (task k call ls es) low high (a, middle, i, j) = a

module _ (table : ℕ → List ℕ) where
  mutual
    line_le : (l : Line) (low high : ℕ) → LineIn table l low high → low ≤ high
    line_le stop low high n = n
    line_le (step t rest) low high (middle, i, j) = omega
        (arith, task_from t low middle i, task_lt t low middle i, line_le rest middle high j)
    line_le (group_end g ms) low high n = lines_le ms low high n.0
    line_le (chord_end g ms b) low high (middle, i, j, e) =
        omega (arith, lines_le ms low middle i, line_le b middle high j)

    lines_le : (ms : Lines) (low high : ℕ) → LinesIn table ms low high → low ≤ high
    lines_le no_lines low high n = n
    lines_le (and_line m ms) low high (middle, i, e, j) =
        omega (arith, line_le m low middle i, lines_le ms middle high j)

  mutual
    ends_lt : (l : Line) (low high : ℕ) → LineIn table l low high → Each (λ k. k < high) (ends_of l)
    ends_lt stop low high n = tt
    ends_lt (step t stop) low high (middle, i, j) = (omega (arith, task_lt t low middle i, j), tt)
    ends_lt (step t (step u l)) low high (middle, i, j) = ends_lt (step u l) middle high j
    ends_lt (step t (group_end g ms)) low high (middle, i, j) = ends_lt (group_end g ms) middle high j
    ends_lt (step t (chord_end g ms b)) low high (middle, i, j) = ends_lt (chord_end g ms b) middle high j
    ends_lt (group_end g ms) low high n = all_lt ms low high n.0
    ends_lt (chord_end g ms b) low high (middle, i, j, e) = ends_lt b middle high j

    all_lt : (ms : Lines) (low high : ℕ) → LinesIn table ms low high → Each (λ k. k < high) (all_ends_of ms)
    all_lt no_lines low high n = tt
    all_lt (and_line m ms) low high (middle, i, e, j) =
        let more : middle ≤ high = lines_le ms middle high j in
        each_append (λ k. k < high) (ends_of m) (all_ends_of ms)
        (each_weaker (λ k a. omega (arith, a, more)) (ends_of m) (ends_lt m low middle i))
        (all_lt ms middle high j)

-- ---- flows

abbrev Late : ℕ → Fate → Type 0
Late k Ran = Unit {0}
Late k (Skipped d) = d < k
Late k Idle = Unit {0}

abbrev EachLate : Fates → Type 0
EachLate [] = Unit {0}
EachLate (f ∷ fs) = Late f.0 f.1 × EachLate fs

late_both : (xs ys : Fates) → EachLate xs → EachLate ys → EachLate (xs ++ ys)
late_both [] ys a b = b
late_both (x ∷ xs) ys a b = (a.0, late_both xs ys a.1 b)

abbrev Below : Flow → ℕ → ℕ → Type 0
Below (skip f) d n = d < n
Below (raised f) d n = d < n
Below x d n = Unit {0}

idle_late : (k d : ℕ) (x : Option Flow) → IsNoFault x → Late k (fate d x)
idle_late k d None i = tt
idle_late k d (Some nothing) i = tt
idle_late k d (Some (num n)) i = tt
idle_late k d (Some (list ns)) i = tt
idle_late k d (Some (id j)) i = tt
idle_late k d (Some (skip f)) i = absurd i
idle_late k d (Some (raised f)) i = absurd i

own_late : (k d low : ℕ) (x : Flow) → low ≤ k → Below x d low → Late k (fate d (Some x))
own_late k d low nothing a b = tt
own_late k d low (num n) a b = tt
own_late k d low (list ns) a b = tt
own_late k d low (id j) a b = tt
own_late k d low (skip f) a b = omega (arith, a, b)
own_late k d low (raised f) a b = omega (arith, a, b)

front : (n : ℤ) (d m : ℕ) (y : Flow) → Below y (blamed_for d y) m → Below (in_front n y) (blamed_for d (in_front n y)) m
front n d m nothing b = tt
front n d m (num i) b = tt
front n d m (list ns) b = tt
front n d m (id k) b = tt
front n d m (skip f) b = b
front n d m (raised f) b = b

one_more : (k d m : ℕ) (es : Rows) (s : State) → k < m → Below (gathered es) (blamed_for d (gathered es)) m
    → Below (gathered ((k, s) ∷ es)) (blamed_for d (gathered ((k, s) ∷ es))) m
one_more k d m es None a b = b
one_more k d m es (Some (Success n)) a b = front n d m (gathered es) b
one_more k d m es (Some (Failure f)) a b = a

gathering : (w : Rows) (d m : ℕ) (ks : List ℕ) → Each (λ k. k < m) ks
    → Below (gathered (with_states w ks)) (blamed_for d (gathered (with_states w ks))) m
gathering w d m [] a = tt
gathering w d m (k ∷ ks) a = one_more k d m (with_states w ks) (state_of k w) a.0 (gathering w d m ks a.1)

grouped : (w : Rows) (x : Flow) (d low m : ℕ) (ks : List ℕ) → Each (λ k. k < m) ks → low ≤ m → Below x d low
    → blamed_for d x ≡ d
    → Below (group_value x (with_states w ks)) (blamed_for d (group_value x (with_states w ks))) m
grouped w nothing d low m ks a l b f = gathering w d m ks a
grouped w (num n) d low m ks a l b f = gathering w d m ks a
grouped w (list ns) d low m ks a l b f = gathering w d m ks a
grouped w (id k) d low m ks a l b f = gathering w d m ks a
grouped w (skip g) d low m ks a l b f = omega (arith, l, b)
grouped w (raised g) d low m [] a l b f = subst (λ e. e < m) (sym f) (omega (arith, l, b))
grouped w (raised g) d low m (k ∷ ks) a l b f = gathering w d m (k ∷ ks) a

by_outcome : (k m : ℕ) (o : Outcome) → k < m → Below (passed_on (Some o)) k m
by_outcome k m (Success n) a = tt
by_outcome k m (Failure f) a = a

module _ (behaviour : Behaviour) where
  next_below : (k d low m : ℕ) (call : Call) (x : Flow) → k < m → low ≤ m → Below x d low
      → Below (passed_on (state behaviour call (Some x))) (blamed_behind k d x) m
  next_below k d low m call nothing a l b = by_outcome k m _ a
  next_below k d low m call (num n) a l b = by_outcome k m _ a
  next_below k d low m call (list ns) a l b = by_outcome k m _ a
  next_below k d low m call (id j) a l b = by_outcome k m _ a
  next_below k d low m call (skip f) a l b = omega (arith, l, b)
  next_below k d low m call (raised f) a l b = omega (arith, l, b)

  mutual
    callback_late : (t : Task) (x : Option Flow) (d : ℕ) → IsNoFault x → EachLate (task_fates behaviour t x d)
    callback_late (task k call ls es) x d i =
        let s : State = state behaviour call x in (
          idle_late k d x i,
          late_both (tasks_fates behaviour ls (to_links s) d) (tasks_fates behaviour es (to_errbacks k x s) d)
              (callbacks_late ls (to_links s) d (links_get s))
              (callbacks_late es (to_errbacks k x s) d (errbacks_get k x s)),
        )

    callbacks_late : (ts : Tasks) (x : Option Flow) (d : ℕ) → IsNoFault x → EachLate (tasks_fates behaviour ts x d)
    callbacks_late no_tasks x d i = tt
    callbacks_late (and_task t ts) x d i =
        late_both (task_fates behaviour t x d) (tasks_fates behaviour ts x d) (callback_late t x d i)
        (callbacks_late ts x d i)

  task_late : (k : ℕ) (call : Call) (ls es : Tasks) (x : Flow) (d low : ℕ) → low ≤ k → Below x d low
      → EachLate (task_fates behaviour (task k call ls es) (Some x) d)
  task_late k call ls es x d low a b =
      let s : State = state behaviour call (Some x) in (
        own_late k d low x a b,
        late_both (tasks_fates behaviour ls (to_links s) d) (tasks_fates behaviour es (to_errbacks k (Some x) s) d)
            (callbacks_late ls (to_links s) d (links_get s))
            (callbacks_late es (to_errbacks k (Some x) s) d (errbacks_get k (Some x) s)),
      )

  below_more : (x : Flow) (d low m : ℕ) → low ≤ m → Below x d low → Below x d m
  below_more nothing d low m l b = tt
  below_more (num n) d low m l b = tt
  below_more (list ns) d low m l b = tt
  below_more (id k) d low m l b = tt
  below_more (skip f) d low m l b = omega (arith, l, b)
  below_more (raised f) d low m l b = omega (arith, l, b)

  module _ (table : ℕ → List ℕ) where
    mutual
      line_late : (l : Line) (x : Flow) (d low high : ℕ) → LineIn table l low high → blamed_for d x ≡ d → Below x d low
          → EachLate (line_fates behaviour l x d)
      line_late stop x d low high i f b = tt
      line_late (step (task k call ls es) rest) x d low high (middle, i, j) f b =
          let t : Task = task k call ls es in
          let s : State = state behaviour call (Some x) in
          let from : low ≤ k = task_from t low middle i in
          let below : k < middle = task_lt t low middle i in
          late_both (task_fates behaviour t (Some x) d) (line_fates behaviour rest (passed_on s) (blamed_behind k d x))
          (task_late k call ls es x d low from b)
          (line_late rest (passed_on s) (blamed_behind k d x) middle high j (fine_passed (blamed_behind k d x) s)
          (next_below k d low middle call x below (omega (arith, from, below)) b))
      line_late (group_end g ms) x d low high i f b = members_late ms x d low high i.0 f b
      line_late (chord_end g ms body) x d low high (middle, i, j, e) f b =
          let out : Flow = header_out behaviour ms x in
          let ends : Each (λ k. k < middle) (all_ends (members_of ms)) =
          subst (λ ks. Each (λ k. k < middle) ks) (ends_of_tree (group_end g ms)) (all_lt table ms low middle i)
          in
          late_both (lines_fates behaviour ms x d) (line_fates behaviour body out (blamed_for d out))
          (members_late ms x d low middle i f b)
          (line_late body out (blamed_for d out) middle high j (fine_out d out)
          (grouped (all_rows behaviour ms x) x d low middle (all_ends (members_of ms)) ends
          (lines_le table ms low middle i) b f))

      members_late : (ms : Lines) (x : Flow) (d low high : ℕ) → LinesIn table ms low high → blamed_for d x ≡ d
          → Below x d low
          → EachLate (lines_fates behaviour ms x d)
      members_late no_lines x d low high i f b = tt
      members_late (and_line m ms) x d low high (middle, i, e, j) f b =
          late_both (line_fates behaviour m x d) (lines_fates behaviour ms x d) (line_late m x d low middle i f b)
          (members_late ms x d middle high j f (below_more x d low middle (line_le table m low middle i) b))

one_late : (k d : ℕ) (fs : Fates) → EachLate fs → In (k, Skipped d) fs → d < k
one_late k d [] a i = absurd i
one_late k d (f ∷ fs) a (inl e) = subst (λ p. Late p.0 p.1) (sym e) a.0
one_late k d (f ∷ fs) a (inr i) = one_late k d fs a.1 i

pub blamed_before : (behaviour : Behaviour) (l : Line) → IsPlan l → BlamedBefore behaviour l
blamed_before behaviour l plan k d i =
    one_late k d (fates behaviour l)
    (line_late behaviour (λ g. members l g) l nothing 0 1 (1 + count_line l) (plan_in_order l plan) refl tt) i
