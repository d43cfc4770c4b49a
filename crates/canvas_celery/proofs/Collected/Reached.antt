-- Rows of an evaluation in a table, and what is known of the flows in it.
use Rattle.std.proofs.Common.{◌≡◌, ◌∙◌, ◌==◌, if◌then◌else◌, ℕ, ◌⊎◌, Bool, true, false, List, [], ◌∷◌, ◌++◌, Some, refl, sym, ap, inl, inr, eq-eqb}
use Rattle.std.proofs.Common.{eqb-true}
use Rattle.canvas_task.specs.Apply.{Behaviour}
use Rattle.canvas_semantics.specs.Tree.{Task, task, Tree, one, chain, group, chord, Trees, no_trees, and_tree}
use Rattle.canvas_semantics.specs.Evaluation.{Flow, State, Rows, state_of, with_states, ends, last_ends, all_ends, task_rows, task_meaning}
use Rattle.canvas_semantics.specs.Evaluation.{eval, eval_chain, member_rows, as_group}
use Rattle.canvas_celery.proofs.Collected.Flows.{listed}
use Rattle.canvas_celery.specs.Completed.{HasRows, state_at}

pub has_split : (s : List State) (a b : Rows) → HasRows s (a ++ b) → HasRows s a × HasRows s b
has_split s [] b h = (tt, h)
has_split s (r ∷ a) b h = ((h.0, (has_split s a b h.1).0), (has_split s a b h.1).1)

pub meaning_rows : (b : Behaviour) (t : Task) (x : Flow) → (task_meaning b t x).rows ≡ task_rows b t (Some x)
meaning_rows b (task k call ls es) x = refl

-- ---- ends

abbrev Occurs : ℕ → Rows → Type 0
Occurs k [] = ⊥
Occurs k (row ∷ rows) = (row.0 ≡ k) ⊎ Occurs k rows

abbrev AllOccur : List ℕ → Rows → Type 0
AllOccur [] rows = Unit {0}
AllOccur (k ∷ ks) rows = Occurs k rows × AllOccur ks rows

occurs_left : (k : ℕ) (a b : Rows) → Occurs k a → Occurs k (a ++ b)
occurs_left k [] b h = absurd h
occurs_left k (r ∷ a) b (inl e) = inl e
occurs_left k (r ∷ a) b (inr h) = inr (occurs_left k a b h)

occurs_right : (k : ℕ) (a b : Rows) → Occurs k b → Occurs k (a ++ b)
occurs_right k [] b h = h
occurs_right k (r ∷ a) b h = inr (occurs_right k a b h)

all_left : (ks : List ℕ) (a b : Rows) → AllOccur ks a → AllOccur ks (a ++ b)
all_left [] a b h = tt
all_left (k ∷ ks) a b h = (occurs_left k a b h.0, all_left ks a b h.1)

all_right : (ks : List ℕ) (a b : Rows) → AllOccur ks b → AllOccur ks (a ++ b)
all_right [] a b h = tt
all_right (k ∷ ks) a b h = (occurs_right k a b h.0, all_right ks a b h.1)

all_both : (ks js : List ℕ) (rows : Rows) → AllOccur ks rows → AllOccur js rows → AllOccur (ks ++ js) rows
all_both [] js rows h i = i
all_both (k ∷ ks) js rows h i = (h.0, all_both ks js rows h.1 i)

module _ (b : Behaviour) where
  mutual
    ends_occur : (t : Tree) (x : Flow) → AllOccur (ends t) (eval b t x).rows
    ends_occur (one (task k call ls es)) x = (inl refl, tt)
    ends_occur (chain ts) x = last_occur ts x
    ends_occur (group g ms) x = all_occur ms x
    ends_occur (chord g h t) x = all_right (ends t) (member_rows b h x) _ (ends_occur t (as_group x h (member_rows b h x)).out)

    last_occur : (ts : Trees) (x : Flow) → AllOccur (last_ends ts) (eval_chain b ts x).rows
    last_occur no_trees x = tt
    last_occur (and_tree t no_trees) x = all_left (ends t) (eval b t x).rows [] (ends_occur t x)
    last_occur (and_tree t (and_tree u ts)) x = all_right (last_ends (and_tree u ts)) (eval b t x).rows _ (last_occur (and_tree u ts) (eval b t x).out)

    all_occur : (ms : Trees) (x : Flow) → AllOccur (all_ends ms) (member_rows b ms x)
    all_occur no_trees x = tt
    all_occur (and_tree t ts) x =
        all_both (ends t) (all_ends ts) _ (all_left (ends t) (eval b t x).rows (member_rows b ts x) (ends_occur t x))
        (all_right (all_ends ts) (eval b t x).rows (member_rows b ts x) (all_occur ts x))

found_by : (s : List State) (row : ℕ × State) (rows : Rows) (k : ℕ) (e : Bool) → (row.0 == k) ≡ e → HasRows s (row ∷ rows)
    → (Occurs k rows → state_of k rows ≡ state_at s k)
    → Occurs k (row ∷ rows) → (if e then row.1 else state_of k rows) ≡ state_at s k
found_by s row rows k true e has rest there = sym has.0 ∙ ap (λ j. state_at s j) (eqb-true row.0 k e)
found_by s row rows k false e has rest (inl same) = absurd (let bad : false ≡ true = sym e ∙ eq-eqb row.0 k same in cc)
found_by s row rows k false e has rest (inr there) = rest there

found : (s : List State) (rows : Rows) (k : ℕ) → HasRows s rows → Occurs k rows → state_of k rows ≡ state_at s k
found s [] k has there = absurd there
found s (row ∷ rows) k has there = found_by s row rows k (row.0 == k) refl has (found s rows k has.1) there

all_found : (s : List State) (rows : Rows) (ks : List ℕ) → HasRows s rows → AllOccur ks rows → with_states rows ks ≡ listed s ks
all_found s rows [] has there = refl
all_found s rows (k ∷ ks) has there = ap (λ st. (k, st) ∷ with_states rows ks) (found s rows k has there.0) ∙ ap (λ es. (k, state_at s k) ∷ es)
    (all_found s rows ks has there.1)

-- the states of a header's ends are those of the table
pub ends_listed : (b : Behaviour) (s : List State) (h : Trees) (x : Flow) → HasRows s (member_rows b h x)
    → with_states (member_rows b h x) (all_ends h) ≡ listed s (all_ends h)
ends_listed b s h x has = all_found s (member_rows b h x) (all_ends h) has (all_occur b h x)
