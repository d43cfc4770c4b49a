-- The rows of a numbered canvas are in the order of their numbers, one for each task.
use Rattle.std.proofs.Common.{◌≡◌, ◌∙◌, ℕ, ◌+◌, ◌<◌, ◌==◌, if◌then◌else◌, true, false, zero, suc, List, [], ◌∷◌, ◌++◌, map, Option, Some, refl, sym, ap, arith}
use Rattle.std.proofs.lemmas.List.{map-append}
use Rattle.std.proofs.lemmas.Bool.Decides.{nat_tests}
use Rattle.canvas_task.specs.Apply.{Behaviour}
use Rattle.canvas_semantics.specs.Tree.{Task, task, Tasks, no_tasks, and_task, Tree, one, chain, group, chord, Trees, no_trees, and_tree, count_task, count_tasks, count, count_all, count_groups, count_all_groups, number_task, number_tasks, number, number_all, numbered}
use Rattle.canvas_semantics.specs.Evaluation.{Flow, nothing, State, Rows, state_of, task_rows, tasks_rows, eval, eval_chain, member_rows, state, to_links, to_errbacks, as_group, meaning}
use Rattle.canvas_semantics.specs.States.{numbers_from, rows_from, states}

abbrev pub numbers : Rows → List ℕ
numbers rows = map (λ r. r.0) rows

-- a numbers from k on, then b more
split : (a k j b n : ℕ) → j ≡ k + a → n ≡ a + b → numbers_from k n ≡ numbers_from k a ++ numbers_from j b
split zero k j b n h i = let e : j ≡ k = omega (arith, h) in let m : n ≡ b = omega (arith, i) in ap (numbers_from k) m ∙ ap (λ x. numbers_from x b) (sym e)
split (suc a) k j b zero h i = absurd (omega (arith, i))
split (suc a) k j b (suc n) h i = ap (λ xs. k ∷ xs) (split a (suc k) j b n (omega (arith, h)) (omega (arith, i)))

-- rows, then rows
joined : (xs ys : Rows) (k j a b n : ℕ) → j ≡ k + a → n ≡ a + b → numbers xs ≡ numbers_from k a → numbers ys ≡ numbers_from j b
    → numbers (xs ++ ys) ≡ numbers_from k n
joined xs ys k j a b n h i e f = map-append (λ r. r.0) xs ys ∙ ap (λ l. l ++ numbers ys) e ∙ ap (λ l. numbers_from k a ++ l) f ∙ sym (split a k j b n h i)

module _ (behaviour : Behaviour) where
  mutual
    task_numbers : (t : Task) (k : ℕ) (x : Option Flow) → numbers (task_rows behaviour (number_task k t) x) ≡ numbers_from k (count_task t)
    task_numbers (task _ call ls es) k x =
        let s = state behaviour call x in
        joined ((k, s) ∷ tasks_rows behaviour (number_tasks (k + 1) ls) (to_links s))
        (tasks_rows behaviour (number_tasks (k + 1 + count_tasks ls) es) (to_errbacks k x s))
        k (k + 1 + count_tasks ls) (1 + count_tasks ls) (count_tasks es) (1 + count_tasks ls + count_tasks es) (omega arith) (omega arith)
        (joined ((k, s) ∷ []) (tasks_rows behaviour (number_tasks (k + 1) ls) (to_links s)) k (k + 1) 1 (count_tasks ls) (1 + count_tasks ls) refl refl refl
        (tasks_numbers ls (k + 1) (to_links s)))
        (tasks_numbers es (k + 1 + count_tasks ls) (to_errbacks k x s))

    tasks_numbers : (ts : Tasks) (k : ℕ) (x : Option Flow) → numbers (tasks_rows behaviour (number_tasks k ts) x) ≡ numbers_from k (count_tasks ts)
    tasks_numbers no_tasks k x = refl
    tasks_numbers (and_task t ts) k x =
        joined (task_rows behaviour (number_task k t) x) (tasks_rows behaviour (number_tasks (k + count_task t) ts) x) k (k + count_task t) (count_task t)
        (count_tasks ts) _ refl refl
        (task_numbers t k x) (tasks_numbers ts (k + count_task t) x)

  one_numbers : (t : Task) (k : ℕ) (x : Flow) → numbers (eval behaviour (one (number_task k t)) x).rows ≡ numbers_from k (count_task t)
  one_numbers (task j call ls es) k x = task_numbers (task j call ls es) k (Some x)

  mutual
    tree_numbers : (t : Tree) (k g : ℕ) (x : Flow) → numbers (eval behaviour (number k g t) x).rows ≡ numbers_from k (count t)
    tree_numbers (one t) k g x = one_numbers t k x
    tree_numbers (chain ts) k g x = chain_numbers ts k g x
    tree_numbers (group _ ms) k g x = members_numbers ms k (g + 1) x
    tree_numbers (chord _ h b) k g x =
        let header = number_all k (g + 1) h in
        let out = (as_group x header (member_rows behaviour header x)).out in
        joined (member_rows behaviour header x) (eval behaviour (number (k + count_all h) (g + 1 + count_all_groups h) b) out).rows k (k + count_all h)
        (count_all h) (count b) _ refl refl
        (members_numbers h k (g + 1) x) (tree_numbers b (k + count_all h) (g + 1 + count_all_groups h) out)

    chain_numbers : (ts : Trees) (k g : ℕ) (x : Flow) → numbers (eval_chain behaviour (number_all k g ts) x).rows ≡ numbers_from k (count_all ts)
    chain_numbers no_trees k g x = refl
    chain_numbers (and_tree t ts) k g x =
        let out = (eval behaviour (number k g t) x).out in
        joined (eval behaviour (number k g t) x).rows (eval_chain behaviour (number_all (k + count t) (g + count_groups t) ts) out).rows k (k + count t)
        (count t) (count_all ts) _ refl refl
        (tree_numbers t k g x) (chain_numbers ts (k + count t) (g + count_groups t) out)

    members_numbers : (ms : Trees) (k g : ℕ) (x : Flow) → numbers (member_rows behaviour (number_all k g ms) x) ≡ numbers_from k (count_all ms)
    members_numbers no_trees k g x = refl
    members_numbers (and_tree t ts) k g x =
        joined (eval behaviour (number k g t) x).rows (member_rows behaviour (number_all (k + count t) (g + count_groups t) ts) x) k (k + count t) (count t)
        (count_all ts) _ refl refl
        (tree_numbers t k g x) (members_numbers ts (k + count t) (g + count_groups t) x)

-- ---- look-ups in rows in order

abbrev pub states_in : Rows → List State
states_in rows = map (λ r. r.1) rows

-- rows in the order of their numbers are their states, from the first number on
pub in_order : (rows : Rows) (k n : ℕ) → numbers rows ≡ numbers_from k n → rows_from k (states_in rows) ≡ rows
in_order [] k n h = refl
in_order (r ∷ rows) k zero h = cc
in_order (r ∷ rows) k (suc n) h =
    let head : r.0 ≡ k = cc in
    let tail : numbers rows ≡ numbers_from (suc k) n = cc in
    ap (λ rs. (k, r.1) ∷ rs) (in_order rows (suc k) n tail) ∙ ap (λ j. (j, r.1) ∷ rows) (sym head)

pub same_number : (k : ℕ) → (k == k) ≡ true
same_number k = grind (arith, nat_tests)

other_number : (j k : ℕ) → j < k → (j == k) ≡ false
other_number j k h = grind (arith, nat_tests)

-- looking up numbers past the first passes it by
passed : (r : ℕ × State) (rows : Rows) (k n : ℕ) → r.0 < k → map (λ j. state_of j (r ∷ rows)) (numbers_from k n) ≡ map (λ j. state_of j rows) (numbers_from k n)
passed r rows k zero h = refl
passed r rows k (suc n) h =
    ap (λ b. (if b then r.1 else state_of k rows) ∷ map (λ j. state_of j (r ∷ rows)) (numbers_from (suc k) n)) (other_number r.0 k h)
    ∙ ap (λ ss. state_of k rows ∷ ss) (passed r rows (suc k) n (omega (arith, h)))

looked_up : (rows : Rows) (k n : ℕ) → numbers rows ≡ numbers_from k n → map (λ j. state_of j rows) (numbers_from k n) ≡ states_in rows
looked_up [] k zero h = refl
looked_up [] k (suc n) h = absurd (let bad : [] ≡ k ∷ numbers_from (suc k) n = h in cc)
looked_up (r ∷ rows) k zero h = absurd (let bad : r.0 ∷ numbers rows ≡ [] = h in cc)
looked_up (r ∷ rows) k (suc n) h =
    let head : r.0 ≡ k = cc in
    let tail : numbers rows ≡ numbers_from (suc k) n = cc in
    let first : (r.0 == k) ≡ true = ap (λ j. r.0 == j) (sym head) ∙ same_number r.0 in
    let below : r.0 < suc k = omega (arith, head) in
    ap (λ b. (if b then r.1 else state_of k rows) ∷ map (λ j. state_of j (r ∷ rows)) (numbers_from (suc k) n)) first
    ∙ ap (λ ss. r.1 ∷ ss) (passed r rows (suc k) n below ∙ looked_up rows (suc k) n tail)

-- ---- the table of states of a numbered canvas

mutual
  task_counted : (t : Task) (k : ℕ) → count_task (number_task k t) ≡ count_task t
  task_counted (task _ call ls es) k = omega (arith, tasks_counted ls (k + 1), tasks_counted es (k + 1 + count_tasks ls))

  tasks_counted : (ts : Tasks) (k : ℕ) → count_tasks (number_tasks k ts) ≡ count_tasks ts
  tasks_counted no_tasks k = refl
  tasks_counted (and_task t ts) k = omega (arith, task_counted t k, tasks_counted ts (k + count_task t))

mutual
  counted : (t : Tree) (k g : ℕ) → count (number k g t) ≡ count t
  counted (one t) k g = task_counted t k
  counted (chain ts) k g = all_counted ts k g
  counted (group _ ms) k g = all_counted ms k (g + 1)
  counted (chord _ h b) k g = omega (arith, all_counted h k (g + 1), counted b (k + count_all h) (g + 1 + count_all_groups h))

  all_counted : (ts : Trees) (k g : ℕ) → count_all (number_all k g ts) ≡ count_all ts
  all_counted no_trees k g = refl
  all_counted (and_tree t ts) k g = omega (arith, counted t k g, all_counted ts (k + count t) (g + count_groups t))

module _ (behaviour : Behaviour) where
  -- the states by number are those of the rows, in their order
  pub states_listed : (c : Tree) → states behaviour (numbered c) ≡ states_in (meaning behaviour c)
  states_listed c =
      ap (λ n. map (λ k. state_of k (meaning behaviour c)) (numbers_from 1 n)) (counted c 1 1)
      ∙ looked_up (meaning behaviour c) 1 (count c) (tree_numbers behaviour c 1 1 nothing)

  -- and the table gives the rows back
  pub states_whole : (c : Tree) → rows_from 1 (states behaviour (numbered c)) ≡ meaning behaviour c
  states_whole c = ap (rows_from 1) (states_listed c) ∙ in_order (meaning behaviour c) 1 (count c) (tree_numbers behaviour c 1 1 nothing)
