-- Rows that are all there once those of the called tasks are.
use Rattle.std.proofs.Common.{◌≡◌, ◌∙◌, ◌-◌, ◌⊎◌, ◌<◌, ℕ, zero, suc, List, [], ◌∷◌, ◌++◌, Some, None, Option, IsSome, refl, sym, ap, subst, inl, inr, length}
use Rattle.std.proofs.Common.{arith, append_assoc, length-append, get_or}
use Rattle.std.proofs.lemmas.List.{get_or_at}
use Rattle.canvas_task.specs.Apply.{Behaviour}
use Rattle.canvas_task.specs.declared.outcome.Outcome.TheVariants.{Success, Failure}
use Rattle.canvas_semantics.specs.Tree.{Call, Task, task, Tasks, no_tasks, and_task, Tree, one, chain, group, chord, Trees, no_trees, and_tree}
use Rattle.canvas_semantics.specs.Evaluation.{Flow, nothing, num, list, id, skip, raised, State, Rows, state, ends, last_ends, all_ends, as_group}
use Rattle.canvas_semantics.specs.Evaluation.{task_rows, tasks_rows, to_links, to_errbacks, eval, eval_chain, member_rows}
use Rattle.canvas_semantics.specs.States.{rows_from}
use Rattle.canvas_celery.specs.Called.{if_called, task_called, tasks_called, called, chain_called, members_called}
use Rattle.canvas_celery.specs.Completed.{HasRows, Keeps, state_at}
use Rattle.canvas_celery.proofs.Collected.Flows.{IsValue, Within, AllThere}
use Rattle.canvas_celery.proofs.Collected.Reached.{has_split}

pub has_join : (s : List State) (a b : Rows) → HasRows s a → HasRows s b → HasRows s (a ++ b)
has_join s [] b h i = i
has_join s (r ∷ a) b h i = (h.0, has_join s a b h.1 i)

none_in : (x y z : State) → (x ≡ None) ⊎ (x ≡ y) → y ≡ z → z ≡ None → x ≡ None
none_in x y z (inl e) same none = e
none_in x y z (inr e) same none = e ∙ same ∙ none

kept_row : (old new s : List State) (k : ℕ) (st : State) → Keeps old new → Within new s → state_at s k ≡ st → state_at old k ≡ st → state_at new k ≡ st
kept_row old new s k None keeps w table had = none_in (state_at new k) (state_at s k) None (w (k - 1)) table refl
kept_row old new s k (Some o) keeps w table had = keeps.stays (k - 1) o had

-- rows of the table stay where outcomes are kept
pub has_kept : (old new s : List State) (rows : Rows) → Keeps old new → Within new s → HasRows s rows → HasRows old rows → HasRows new rows
has_kept old new s [] keeps w table had = tt
has_kept old new s (r ∷ rows) keeps w table had = (kept_row old new s r.0 r.1 keeps w table.0 had.0, has_kept old new s rows keeps w table.1 had.1)

-- ---- the rows of a task are all there once its own is, and those that it calls

-- links and error callbacks are called with a value, or not at all
abbrev CanCall : Option Flow → Type 0
CanCall None = Unit {0}
CanCall (Some x) = IsValue x

can_link : (st : State) → CanCall (to_links st)
can_link None = tt
can_link (Some (Success n)) = tt
can_link (Some (Failure f)) = tt

can_call_back : (k : ℕ) (x : Option Flow) (st : State) → CanCall (to_errbacks k x st)
can_call_back k None None = tt
can_call_back k None (Some (Success n)) = tt
can_call_back k None (Some (Failure f)) = tt
can_call_back k (Some nothing) None = tt
can_call_back k (Some nothing) (Some (Success n)) = tt
can_call_back k (Some nothing) (Some (Failure f)) = tt
can_call_back k (Some (num m)) None = tt
can_call_back k (Some (num m)) (Some (Success n)) = tt
can_call_back k (Some (num m)) (Some (Failure f)) = tt
can_call_back k (Some (list ns)) None = tt
can_call_back k (Some (list ns)) (Some (Success n)) = tt
can_call_back k (Some (list ns)) (Some (Failure f)) = tt
can_call_back k (Some (id j)) None = tt
can_call_back k (Some (id j)) (Some (Success n)) = tt
can_call_back k (Some (id j)) (Some (Failure f)) = tt
can_call_back k (Some (skip g)) st = tt
can_call_back k (Some (raised g)) None = tt
can_call_back k (Some (raised g)) (Some (Success n)) = tt
can_call_back k (Some (raised g)) (Some (Failure f)) = tt

module _ (b : Behaviour) (r s : List State) (w : Within r s) where
  own_there : (k : ℕ) (call : Call) (x : Option Flow) (rest : Rows) → CanCall x → state_at s k ≡ state b call x
      → HasRows r (if_called x k (state b call x) ++ rest)
      → state_at r k ≡ state b call x
  own_there k call None rest can table has = none_in (state_at r k) (state_at s k) None (w (k - 1)) table refl
  own_there k call (Some nothing) rest can table has = has.0
  own_there k call (Some (num n)) rest can table has = has.0
  own_there k call (Some (list ns)) rest can table has = has.0
  own_there k call (Some (id j)) rest can table has = has.0
  own_there k call (Some (skip f)) rest can table has = absurd can
  own_there k call (Some (raised f)) rest can table has = absurd can

  -- links and error callbacks: their rows in the table, and those of the ones that are called
  split_behind : (k : ℕ) (call : Call) (ls es : Tasks) (x : Option Flow) → HasRows s (task_rows b (task k call ls es) x)
      → HasRows r (task_called b (task k call ls es) x)
      → (HasRows s (tasks_rows b ls (to_links (state b call x))) × HasRows r (tasks_called b ls (to_links (state b call x))))
      × (HasRows s (tasks_rows b es (to_errbacks k x (state b call x))) × HasRows r (tasks_called b es (to_errbacks k x (state b call x))))
  split_behind k call ls es x table calls =
      let st = state b call x in
      let l = to_links st in
      let e = to_errbacks k x st in
      let both = has_split s (tasks_rows b ls l) (tasks_rows b es e) table.1 in
      let behind = (has_split r (if_called x k st) (tasks_called b ls l ++ tasks_called b es e) calls).1 in
      let had = has_split r (tasks_called b ls l) (tasks_called b es e) behind in
      ((both.0, had.0), (both.1, had.1))

  mutual
    task_there : (t : Task) (x : Option Flow) → CanCall x → HasRows s (task_rows b t x) → HasRows r (task_called b t x) → HasRows r (task_rows b t x)
    task_there (task k call ls es) x can table calls =
        let l = to_links (state b call x) in
        let e = to_errbacks k x (state b call x) in
        let q = split_behind k call ls es x table calls in
        let links = tasks_there ls l (can_link (state b call x)) q.0.0 q.0.1 in
        let errbacks = tasks_there es e (can_call_back k x (state b call x)) q.1.0 q.1.1 in
        (own_there k call x _ can table.0 calls, has_join r (tasks_rows b ls l) (tasks_rows b es e) links errbacks)

    tasks_there : (ts : Tasks) (x : Option Flow) → CanCall x → HasRows s (tasks_rows b ts x) → HasRows r (tasks_called b ts x) → HasRows r (tasks_rows b ts x)
    tasks_there no_tasks x can table calls = tt
    tasks_there (and_task t ts) x can table calls =
        let both = has_split s (task_rows b t x) (tasks_rows b ts x) table in
        let had = has_split r (task_called b t x) (tasks_called b ts x) calls in
        has_join r (task_rows b t x) (tasks_rows b ts x) (task_there t x can both.0 had.0) (tasks_there ts x can both.1 had.1)

  pub own_row : (k : ℕ) (call : Call) (ls es : Tasks) (x : Flow) → state_at r k ≡ state_at s k → HasRows s (task_rows b (task k call ls es) (Some x))
      → HasRows r (task_called b (task k call ls es) (Some x)) → HasRows r (task_rows b (task k call ls es) (Some x))
  own_row k call ls es x same table calls =
      let st = state b call (Some x) in
      let l = to_links st in
      let e = to_errbacks k (Some x) st in
      let q = split_behind k call ls es (Some x) table calls in
      let links = tasks_there ls l (can_link st) q.0.0 q.0.1 in
      let errbacks = tasks_there es e (can_call_back k (Some x) st) q.1.0 q.1.1 in
      (same ∙ table.0, has_join r (tasks_rows b ls l) (tasks_rows b es e) links errbacks)

  pub own_value : (k : ℕ) (call : Call) (ls es : Tasks) (x : Flow) → IsValue x → HasRows s (task_rows b (task k call ls es) (Some x))
      → HasRows r (task_called b (task k call ls es) (Some x))
      → state_at r k ≡ state_at s k
  own_value k call ls es x value table calls = own_there k call (Some x) _ value table.0 calls ∙ sym table.0

-- ---- what is called is among the rows

module _ (b : Behaviour) (s : List State) where
  own_called : (x : Option Flow) (k : ℕ) (st : State) → state_at s k ≡ st → HasRows s (if_called x k st)
  own_called None k st h = tt
  own_called (Some nothing) k st h = (h, tt)
  own_called (Some (num n)) k st h = (h, tt)
  own_called (Some (list ns)) k st h = (h, tt)
  own_called (Some (id j)) k st h = (h, tt)
  own_called (Some (skip f)) k st h = tt
  own_called (Some (raised f)) k st h = tt

  mutual
    pub task_among : (t : Task) (x : Option Flow) → HasRows s (task_rows b t x) → HasRows s (task_called b t x)
    task_among (task k call ls es) x has =
        let l = to_links (state b call x) in
        let e = to_errbacks k x (state b call x) in
        let both = has_split s (tasks_rows b ls l) (tasks_rows b es e) has.1 in
        has_join s (if_called x k (state b call x)) (tasks_called b ls l ++ tasks_called b es e) (own_called x k (state b call x) has.0)
        (has_join s (tasks_called b ls l) (tasks_called b es e) (tasks_among ls l both.0) (tasks_among es e both.1))

    pub tasks_among : (ts : Tasks) (x : Option Flow) → HasRows s (tasks_rows b ts x) → HasRows s (tasks_called b ts x)
    tasks_among no_tasks x has = tt
    tasks_among (and_task t ts) x has =
        let both = has_split s (task_rows b t x) (tasks_rows b ts x) has in
        has_join s (task_called b t x) (tasks_called b ts x) (task_among t x both.0) (tasks_among ts x both.1)

  mutual
    tree_among : (t : Tree) (x : Flow) → HasRows s (eval b t x).rows → HasRows s (called b t x)
    tree_among (one (task k call ls es)) x has = task_among (task k call ls es) (Some x) has
    tree_among (chain ts) x has = chain_among ts x has
    tree_among (group g ms) x has = members_among ms x has
    tree_among (chord g h t) x has =
        let out = (as_group x h (member_rows b h x)).out in
        let both = has_split s (member_rows b h x) (eval b t out).rows has in
        has_join s (members_called b h x) (called b t out) (members_among h x both.0) (tree_among t out both.1)

    pub chain_among : (ts : Trees) (x : Flow) → HasRows s (eval_chain b ts x).rows → HasRows s (chain_called b ts x)
    chain_among no_trees x has = tt
    chain_among (and_tree t ts) x has =
        let out = (eval b t x).out in
        let both = has_split s (eval b t x).rows (eval_chain b ts out).rows has in
        has_join s (called b t x) (chain_called b ts out) (tree_among t x both.0) (chain_among ts out both.1)

    pub members_among : (ms : Trees) (x : Flow) → HasRows s (member_rows b ms x) → HasRows s (members_called b ms x)
    members_among no_trees x has = tt
    members_among (and_tree t ts) x has =
        let both = has_split s (eval b t x).rows (member_rows b ts x) has in
        has_join s (called b t x) (members_called b ts x) (tree_among t x both.0) (members_among ts x both.1)

-- ---- ends have outcomes

pub some_state : (b : Behaviour) (call : Call) (x : Flow) → IsSome (state b call (Some x))
some_state b call nothing = refl
some_state b call (num n) = refl
some_state b call (list ns) = refl
some_state b call (id j) = refl
some_state b call (skip f) = refl
some_state b call (raised f) = refl

pub outcome_task : (b : Behaviour) (s : List State) (k : ℕ) (call : Call) (ls es : Tasks) (x : Flow) → HasRows s (task_rows b (task k call ls es) (Some x))
    → IsSome (state_at s k)
outcome_task b s k call ls es x has = let P : State → Type 0 = λ st. IsSome st in subst P (sym has.0) (some_state b call x)

all_join : (r : List State) (ks js : List ℕ) → AllThere r ks → AllThere r js → AllThere r (ks ++ js)
all_join r [] js h i = i
all_join r (k ∷ ks) js h i = (h.0, all_join r ks js h.1 i)

module _ (b : Behaviour) (r : List State) where
  mutual
    ends_there : (t : Tree) (x : Flow) → HasRows r (eval b t x).rows → AllThere r (ends t)
    ends_there (one (task k call ls es)) x has = (let P : State → Type 0 = λ st. IsSome st in subst P (sym has.0) (some_state b call x), tt)
    ends_there (chain ts) x has = last_there ts x has
    ends_there (group g ms) x has = all_there ms x has
    ends_there (chord g h t) x has =
        let out = (as_group x h (member_rows b h x)).out in ends_there t out (has_split r (member_rows b h x) (eval b t out).rows has).1

    last_there : (ts : Trees) (x : Flow) → HasRows r (eval_chain b ts x).rows → AllThere r (last_ends ts)
    last_there no_trees x has = tt
    last_there (and_tree t no_trees) x has = ends_there t x (has_split r (eval b t x).rows [] has).0
    last_there (and_tree t (and_tree u ts)) x has =
        let out = (eval b t x).out in last_there (and_tree u ts) out (has_split r (eval b t x).rows (eval_chain b (and_tree u ts) out).rows has).1

    pub all_there : (ms : Trees) (x : Flow) → HasRows r (member_rows b ms x) → AllThere r (all_ends ms)
    all_there no_trees x has = tt
    all_there (and_tree t ts) x has =
        let both = has_split r (eval b t x).rows (member_rows b ts x) has in
        all_join r (ends t) (all_ends ts) (ends_there t x both.0) (all_there ts x both.1)

pub there_at : (r : List State) (ks : List ℕ) (i k : ℕ) → AllThere r ks → i < length ks → k ≡ get_or ks i k → IsSome (state_at r k)
there_at r [] i k all h e = absurd (omega (arith, h))
there_at r (j ∷ ks) zero k all h e = let P : ℕ → Type 0 = λ m. IsSome (state_at r m) in subst P (sym e) all.0
there_at r (j ∷ ks) (suc i) k all h e = there_at r ks i k all.1 (omega (arith, h)) e

-- ---- a list that has the rows of another is that

same_list : (front rs ss : List State) → HasRows (front ++ rs) (rows_from (suc (length front)) ss) → length rs ≡ length ss → rs ≡ ss
same_list front [] [] has e = refl
same_list front [] (s ∷ ss) has e = absurd (omega (arith, e))
same_list front (r ∷ rs) [] has e = absurd (omega (arith, e))
same_list front (r ∷ rs) (s ∷ ss) has e =
    let place : suc (length front) - 1 ≡ length front = omega arith in
    let here : r ≡ s = sym (get_or_at front r rs None (length front) refl) ∙ (ap (λ i. get_or (front ++ r ∷ rs) i None) (sym place) ∙ has.0) in
    let longer : length (front ++ r ∷ []) ≡ suc (length front) = length-append front (r ∷ []) ∙ (omega arith) in
    let P : List State → Type 0 = λ all. HasRows all (rows_from (suc (suc (length front))) ss) in
    let Q : ℕ → Type 0 = λ k. HasRows ((front ++ r ∷ []) ++ rs) (rows_from (suc k) ss) in
    let rest = same_list (front ++ r ∷ []) rs ss (subst Q (sym longer) (subst P (sym (append_assoc front (r ∷ []) rs)) has.1)) (omega (arith, e)) in
    ap (λ x. x ∷ rs) here ∙ ap (λ xs. s ∷ xs) rest

pub is_table : (rs ss : List State) → HasRows rs (rows_from 1 ss) → length rs ≡ length ss → rs ≡ ss
is_table rs ss has e = same_list [] rs ss has e
