-- Runs by turns with entries in which all have ended: how many stores answered Again.
use Rattle.std.proofs.Common.{◌≡◌, ◌⊎◌, ℕ, zero, suc, ◌+◌, ◌*◌, ◌≤◌, ◌<◌, Bool, true, false, cond, eqb, List, [], ◌∷◌, length, Option, Some, None, refl, sym, ap, ap₂, ◌∙◌, subst, inl, inr, ⊎_elim, eq-eqb, ne_eqb, arith}
use Rattle.std.proofs.lemmas.Bool.{cases_eq, cases_lt, eqb-true}
use Rattle.std.proofs.lemmas.Nat.{mul-le}
use Rattle.canvas_task.specs.Apply.{Behaviour}
use Rattle.canvas_semantics.specs.Line.{Line}
use Rattle.canvas_rewrite.specs.Planned.{IsPlan}
use Rattle.canvas_envelope.specs.Content.{Content, number_of}
use Rattle.canvas_history.specs.Lists.{In, Each, total, seconds}
use Rattle.canvas_envelope.specs.declared.envelope.Envelope.{Envelope}
use Rattle.canvas_history.specs.declared.stored.Stored.TheVariants.{Again}
use Rattle.canvas_history.specs.Table as table
use Rattle.canvas_history.specs.Queue as queue
use Rattle.canvas_runs.specs.Book.{book_of}
use Rattle.canvas_runs.specs.Calls.{QueueAnswered}
use Rattle.canvas_runs.specs.Core.{Ask, Reply, to_table, from_table, taking, resting, over, Doing, Between}
use Rattle.canvas_runs.specs.Law.{of_task, takes_one_of, agains_one_of, agains_one, IsRunMessage, publications, publishes_one, takes_of_task, redeliveries, again_stores, FirstPart, SecondPart}
use Rattle.canvas_runs.specs.Logs.{queue_calls}
use Rattle.canvas_runs.specs.Run.{Run, published_all}
use Rattle.canvas_runs.specs.declared.when.When.{When}
use Rattle.canvas_runs.specs.declared.when.When.TheVariants.{Early, Late}
use Rattle.canvas_runs.specs.Worker.{worker, opened}
use Rattle.canvas_runs.proofs.Laws.Facts.{X}
use Rattle.canvas_runs.proofs.Laws.FirstLaw.{again_weight, first_part, run_again, run_sealed}
use Rattle.canvas_runs.proofs.Laws.SecondLaw.{second_part}
use Rattle.canvas_runs.proofs.Runs.StoredOnce.{agains_task}
use Rattle.canvas_runs.proofs.Lists.Sums.{sum_to-le, sum_to, sum_to-same, sum_to-zero, sum_to-both, total-zero, find_heavy, in_total}
use Rattle.canvas_runs.proofs.Lists.Words.{each_append, each_from_in}
use Rattle.canvas_runs.specs.Termination.{most_steps}
use Rattle.canvas_runs.specs.Redeliveries.{Entry, is_for, ByEntries, RanAgain, answers_again, agains_in, IsRunTask, RunEntries, no_entry, one_run, one_idle}
use Rattle.canvas_runs.specs.TurnLaws.{ByTurns}
use Rattle.canvas_runs.specs.Turns.{Step, IsWorker, left, holds, AllEnded, Begins, rounds, redeliveries_in}
use Rattle.canvas_runs.proofs.ByTurns.Redeliveries.{no_entries, ahead, are_turns, entries_for}
use Rattle.canvas_runs.proofs.ByTurns.Spends.{spends_length, takes_in, agains_of, few_left, spends_agains, waiting, spends_all}
use Rattle.canvas_runs.proofs.ByTurns.TurnEnds.{few}
use Rattle.canvas_runs.proofs.ByTurns.TurnLaw.{the_run, the_closed, all_between, rounds_workers}
use Rattle.canvas_runs.proofs.ByTurns.TurnRuns.{firsts}
use Rattle.canvas_runs.proofs.ByTurns.TurnWalk.{holds_first}
use Rattle.canvas_runs.proofs.ByTurns.TurnSums.{redelivers_few, in_table, queue_split, table_total}
use Rattle.canvas_runs.proofs.Ends.FewCalls.{again_sum}

-- ---- sums by key

zero_either : (b : Bool) → ◌≡◌ {A = ℕ} (cond b 0 0) 0
zero_either true = refl
zero_either false = refl

picked_not : (n t a : ℕ) → n < t → sum_to n (λ k. cond (eqb t k) a 0) ≡ 0
picked_not zero t a l = ap (λ b. cond b a 0) (ne_eqb t 0 (λ e. omega (arith, e, l)))
picked_not (suc n) t a l =
    let r = picked_not n t a (omega (arith, l)) in
    let z : ◌≡◌ {A = ℕ} (cond (eqb t (suc n)) a 0) 0 = ap (λ b. cond b a 0) (ne_eqb t (suc n) (λ e. omega (arith, e, l))) in
    omega (arith, r, z)

picked_is : (n t a : ℕ) → t ≤ n → sum_to n (λ k. cond (eqb t k) a 0) ≡ a
picked_is zero t a l = let same : t ≡ 0 = omega (arith, l) in ap (λ b. cond b a 0) (eq-eqb t 0 same)
picked_is (suc n) t a l = elim (cases_eq t (suc n)) [
  | inl e ↦
      let r = picked_not n t a (omega (arith, e)) in
      let z : ◌≡◌ {A = ℕ} (cond (eqb t (suc n)) a 0) a = ap (λ b. cond b a 0) (eq-eqb t (suc n) e) in
      omega (arith, r, z)
  | inr d ↦
      let r = picked_is n t a (omega (arith, l, d)) in
      let z : ◌≡◌ {A = ℕ} (cond (eqb t (suc n)) a 0) 0 = ap (λ b. cond b a 0) (ne_eqb t (suc n) d) in
      omega (arith, r, z)
]

by_key : {A : Type 0} (key w : A → ℕ) (n : ℕ) (xs : List A) → total key xs ≤ n → sum_to n (λ k. total (λ x. cond (eqb (key x) k) (w x) 0) xs) ≡ total w xs
by_key key w n [] l = sum_to-zero n
by_key key w n (x ∷ xs) l =
    let r = by_key key w n xs (omega (arith, l)) in
    let p = picked_is n (key x) (w x) (omega (arith, l)) in
    let b = sum_to-both n (λ k. cond (eqb (key x) k) (w x) 0) (λ k. total (λ y. cond (eqb (key y) k) (w y) 0) xs) in
    omega (arith, r, p, b)

total_as : {A : Type 0} (v w : A → ℕ) → ((x : A) → v x ≡ w x) → (xs : List A) → total v xs ≡ total w xs
total_as v w e [] = refl
total_as v w e (x ∷ xs) = ap₂ (λ a b. a + b) (e x) (total_as v w e xs)

-- the task whose store answers
abbrev stores_of : Ask Envelope → ℕ
stores_of (to_table (table.store t o)) = t
stores_of a = 0

module _ (behaviour : Behaviour) (l : Line) where
  again_of_task : (k : ℕ) (x : Step) → cond (eqb (stores_of x.1.0) k) (answers_again x.1.0 x.1.1) 0 ≡ in_table behaviour l (agains_one k) x.1
  again_of_task k (p, (a, r)) = go a r
    where
      go : (a : Ask Envelope) (r : Reply Envelope)
          → cond (eqb (stores_of a) k) (answers_again a r) 0 ≡ in_table behaviour l (agains_one k) (a, r)
      go (to_table (table.store t o)) (from_table (table.was Again)) = omega arith
      go (to_table (table.store t o)) (from_table r) = zero_either (eqb t k)
      go (to_table c) (from_table r) = zero_either (eqb 0 k)
      go a r = zero_either (eqb (stores_of a) k)

-- ---- entries

entry_points : (k : ℕ) (es : List Entry) → total (λ (e : Entry). cond (eqb e.0 k) 1 0) es ≡ entries_for k Early es + entries_for k Late es
entry_points k [] = refl
entry_points k ((t, Early) ∷ es) = let r = entry_points k es in omega (arith, r)
entry_points k ((t, Late) ∷ es) = let r = entry_points k es in omega (arith, r)

own_entry : (e : Entry) → is_for e.0 e.1 e ≡ true
own_entry (t, Early) = eq-eqb t t refl
own_entry (t, Late) = eq-eqb t t refl

in_entries : (rest : List Entry) (e : Entry) → In e rest → 1 ≤ entries_for e.0 e.1 rest
in_entries rest e i =
    let some = in_total (λ (x : Entry). cond (is_for e.0 e.1 x) 1 0) rest e i in
    let one : ◌≡◌ {A = ℕ} (cond (is_for e.0 e.1 e) 1 0) 1 = ap (λ b. cond b 1 0) (own_entry e) in
    omega (arith, some, one)

module _ (D : ℕ → ℕ) (k : ℕ) where
  weighed : (es : List Entry) → total (λ (e : Entry). cond (eqb e.0 k) (D e.0) 0) es ≡ total (λ (e : Entry). cond (eqb e.0 k) (D k) 0) es
  weighed es = total_as (λ (e : Entry). cond (eqb e.0 k) (D e.0) 0) (λ (e : Entry). cond (eqb e.0 k) (D k) 0) (λ e. go e.0 (eqb e.0 k) refl) es
    where
      go : (j : ℕ) (b : Bool) → eqb j k ≡ b → cond b (D j) 0 ≡ cond b (D k) 0
      go j true e = ap D (eqb-true j k e)
      go j false e = refl

  weighed_none : D k ≡ 0 → (es : List Entry) → total (λ (e : Entry). cond (eqb e.0 k) (D e.0) 0) es ≡ 0
  weighed_none z es = weighed es
      ∙ (ap (λ d. total (λ (e : Entry). cond (eqb e.0 k) d 0) es) z ∙ total-zero (λ (e : Entry). cond (eqb e.0 k) 0 0) (λ e. zero_either (eqb e.0 k)) es)

  weighed_one : D k ≡ 1 → (es : List Entry) → total (λ (e : Entry). cond (eqb e.0 k) (D e.0) 0) es ≡ entries_for k Early es + entries_for k Late es
  weighed_one o es = weighed es ∙ (ap (λ d. total (λ (e : Entry). cond (eqb e.0 k) d 0) es) o ∙ entry_points k es)

-- ---- the run

no_takes : (l : Line) (k : ℕ) (es : List Envelope) → total (takes_one_of l k) (published_all es) ≡ 0
no_takes l k [] = refl
no_takes l k (e ∷ es) = let r = no_takes l k es in omega (arith, r)

no_agains : (l : Line) (k : ℕ) (es : List Envelope) → total (agains_one_of l k) (published_all es) ≡ 0
no_agains l k [] = refl
no_agains l k (e ∷ es) = let r = no_agains l k es in omega (arith, r)

module _ (behaviour : Behaviour) (l : Line) (k : ℕ) where
  none_ahead : (w : When) (s : Doing (worker behaviour l)) (h : Option Envelope) → Between s → ahead behaviour l k w s h ≡ 0
  none_ahead Early taking h b = refl
  none_ahead Early resting h b = refl
  none_ahead Early over h b = refl
  none_ahead Late taking h b = refl
  none_ahead Late resting h b = refl
  none_ahead Late over h b = refl
  none_ahead w s h b = elim b [ ]

module _ (behaviour : Behaviour) (l : Line) (n : ℕ) (es : List Entry) (us : List ℕ) (xs : List Step) (rest : List Entry)
    (t : ByEntries behaviour l n es us xs rest) where
  pub its_turns : ByTurns behaviour l n us xs
  its_turns = record { plan = t.plan; opens_back = t.opens_back; workers = t.workers; turned = are_turns behaviour l n [] es us xs rest t.turned }

  pub its_entries : redeliveries_in xs + length rest ≡ length es
  its_entries = spends_length behaviour l n [] es us xs rest t.turned

  pub few_again : (ts : List ℕ) → 1 ≤ n → Begins us ts n → length xs ≤ most_steps l n (length ts) (length es)
  few_again ts some b =
      let a = few behaviour l n us xs its_turns some ts b in
      let m = mul-le (8 * redeliveries_in xs) n (8 * length es) n (omega (arith, its_entries)) (omega arith) in
      omega (arith, a, its_entries, m)

  -- ---- at any time

  abbrev the_run_so_far : Run behaviour l
  the_run_so_far = the_run behaviour l n us xs its_turns

  task_agains : (k : ℕ) → total (λ (x : Step). cond (eqb (stores_of x.1.0) k) (answers_again x.1.0 x.1.1) 0) xs ≤ total (agains_task (X behaviour l t.plan) k)
      (seconds (queue_calls the_run_so_far.queue))
  task_agains k =
      let stores : again_stores k the_run_so_far.table ≡ total (λ (x : Step). in_table behaviour l (agains_one k) x.1) xs =
      table_total behaviour l (agains_one k) n xs in
      let steps = total_as (λ (x : Step). cond (eqb (stores_of x.1.0) k) (answers_again x.1.0 x.1.1) 0) (λ (x : Step). in_table behaviour l (agains_one k) x.1)
      (again_of_task behaviour l k) xs in
      let few_stores = (first_part behaviour l t.plan the_run_so_far).stored_again k in
      let weights = total_as (agains_task (X behaviour l t.plan) k) (agains_one_of l k) (again_weight behaviour l t.plan the_run_so_far k)
      (seconds (queue_calls the_run_so_far.queue)) in
      omega (arith, stores, steps, few_stores, weights)

  pub agains_few : agains_in xs ≤ length es
  agains_few =
      let N = total (λ (x : Step). stores_of x.1.0) xs in
      let a = by_key (λ (x : Step). stores_of x.1.0) (λ (x : Step). answers_again x.1.0 x.1.1) N xs (omega arith) in
      let b = sum_to-le N (λ k. total (λ (x : Step). cond (eqb (stores_of x.1.0) k) (answers_again x.1.0 x.1.1) 0) xs)
      (λ k. total (agains_task (X behaviour l t.plan) k) (seconds (queue_calls the_run_so_far.queue))) task_agains in
      let c = again_sum behaviour l t.plan the_run_so_far N in
      let d = redelivers_few behaviour l n us xs its_turns in
      omega (arith, a, b, c, d, its_entries)

  module _ (some : 1 ≤ n) (all : AllEnded behaviour l n xs) where
    abbrev R : Run behaviour l
    R = the_run behaviour l n us xs its_turns

    first : FirstPart behaviour l R
    first = first_part behaviour l t.plan R

    second : SecondPart behaviour l R
    second = second_part behaviour l t.plan R (the_closed behaviour l n us xs its_turns some all)

    -- how often the message of the task is published
    abbrev D : ℕ → ℕ
    D k = publications l k R.queue

    its_takes : (k : ℕ) → takes_of_task l k R.queue ≡ takes_in behaviour l n k xs
    its_takes k = let s = queue_split behaviour l (takes_one_of l k) n xs in let z = no_takes l k (firsts behaviour l) in omega (arith, s, z)

    its_agains : (k : ℕ) → redeliveries l k R.queue ≡ agains_of behaviour l n k xs
    its_agains k = let s = queue_split behaviour l (agains_one_of l k) n xs in let z = no_agains l k (firsts behaviour l) in omega (arith, s, z)

    none_at_first : (k : ℕ) (w : When) → waiting behaviour l n k w [] ≡ 0
    none_at_first k w = sum_to-same n (λ p. ahead behaviour l k w (left behaviour l [] p) (holds [] p)) (λ p. 0)
        (λ p m. none_ahead behaviour l k w (left behaviour l [] p) (holds [] p) tt) ∙ sum_to-zero n

    none_at_last : (k : ℕ) (w : When) → waiting behaviour l n k w xs ≡ 0
    none_at_last k w = sum_to-same n (λ p. ahead behaviour l k w (left behaviour l xs p) (holds xs p)) (λ p. 0)
        (λ p m. none_ahead behaviour l k w (left behaviour l xs p) (holds xs p) (all_between behaviour l n us xs its_turns all p)) ∙ sum_to-zero n

    -- a task is run where its message is published
    run_once : (k : ℕ) → IsRunTask behaviour l k → D k ≡ 1
    run_once k (c, e, i) = subst (λ j. D j ≡ 1) e (second.published c i)

    run_where : (k : ℕ) (x : Option Content) (w : (c : Content) → x ≡ Some c → IsRunMessage behaviour l c) → (of_task l k x ≡ 0 → ⊥) → IsRunTask behaviour l k
    run_where k None w d = absurd (d refl)
    run_where k (Some c) w d = go (eqb (number_of c.own) k) refl d
      where
        go : (b : Bool) → eqb (number_of c.own) k ≡ b → (◌≡◌ {A = ℕ} (cond b 1 0) 0 → ⊥) → IsRunTask behaviour l k
        go true e f = (c, eqb-true (number_of c.own) k e, w c refl)
        go false e f = absurd (f refl)

    some_same : (x : Option Content) (c d : Content) → x ≡ Some c → x ≡ Some d → c ≡ d
    some_same x c d e f = let g : ◌≡◌ {A = Option Content} (Some c) (Some d) = sym e ∙ f in cc

    run_or_none : (k : ℕ) → (redeliveries l k R.queue ≡ 0) ⊎ IsRunTask behaviour l k
    run_or_none k = elim (find_heavy (agains_one_of l k) (seconds (queue_calls R.queue))) [
      | inl z ↦ inl z
      | inr y ↦ inr (of_call y.0 y.1 y.2)
    ]
      where
        of_call : (y : QueueAnswered Envelope) → In y (seconds (queue_calls R.queue)) → (agains_one_of l k y ≡ 0 → ⊥) → IsRunTask behaviour l k
        of_call (queue.redeliver e, r) i d =
            let m = run_again behaviour l t.plan R e r i in
            run_where k (opened (book_of l) e) (λ c o. subst (IsRunMessage behaviour l) (some_same (opened (book_of l) e) m.0 c m.2 o) m.3) d
        of_call c i d = absurd (d refl)

    was_run : (k : ℕ) → D k ≡ 1 → IsRunTask behaviour l k
    was_run k o = elim (find_heavy (publishes_one l k) (seconds (queue_calls R.queue))) [
      | inl z ↦ absurd (omega (arith, o, z))
      | inr y ↦ of_call y.0 y.1 y.2
    ]
      where
        of_call : (y : QueueAnswered Envelope) → In y (seconds (queue_calls R.queue)) → (publishes_one l k y ≡ 0 → ⊥) → IsRunTask behaviour l k
        of_call (queue.publish e, r) i d =
            let m = run_sealed behaviour l t.plan R e r i in
            run_where k (opened (book_of l) e) (λ c o. subst (IsRunMessage behaviour l) (some_same (opened (book_of l) e) m.0 c m.2 o) m.3) d
        of_call c i d = absurd (d refl)

    few_publishes : (k : ℕ) → (D k ≡ 0) ⊎ (D k ≡ 1)
    few_publishes k = let f = first.published_once k in
        ⊎_elim (λ (z : D k < 1). inl (omega (arith, z))) (λ (z : 1 ≤ D k). inr (omega (arith, z, f))) (cases_lt (D k) 1)

    -- where the task isn't run nothing answers again, and where it is, each entry is spent
    abbrev Counted : ℕ → Type 0
    Counted k = (again_stores k R.table ≡ entries_for k Early es + entries_for k Late es) × (entries_for k Early rest ≡ 0) × (entries_for k Late rest ≡ 0)

    not_run : (k : ℕ) → D k ≡ 0 → again_stores k R.table ≡ 0
    not_run k z = elim (run_or_none k) [
      | inl none ↦ second.stored_again k ∙ none
      | inr i ↦ let o = run_once k i in absurd (omega (arith, o, z))
    ]

    counted_run : (k : ℕ) → D k ≡ 1 → Counted k
    counted_run k o =
        let T = takes_in behaviour l n k xs in
        let A = agains_of behaviour l n k xs in
        let taken : T ≡ 1 + A = omega (arith, second.taken k, its_takes k, its_agains k, o) in
        let sum = spends_agains behaviour l n k [] es us xs rest t.turned in
        let fe = few_left behaviour l n k Early [] es us xs rest t.turned in
        let fl = few_left behaviour l n k Late [] es us xs rest t.turned in
        let e_none : entries_for k Early rest ≡ 0 =
        ⊎_elim (λ z. z) (λ (m : T + waiting behaviour l n k Early [] + entries_for k Early rest ≡ entries_for k Early es
        + waiting behaviour l n k Early xs). omega (arith, m, none_at_first k Early, none_at_last k Early, taken, sum, fl))
        (spends_all behaviour l n k t.plan t.opens_back Early [] es us xs rest (holds_first behaviour l t.plan t.opens_back n) t.workers t.turned) in
        let l_none : entries_for k Late rest ≡ 0 =
        ⊎_elim (λ z. z) (λ (m : T + waiting behaviour l n k Late [] + entries_for k Late rest ≡ entries_for k Late es + waiting behaviour l n k Late xs). omega
        (arith, m, none_at_first k Late, none_at_last k Late, taken, sum, fe))
        (spends_all behaviour l n k t.plan t.opens_back Late [] es us xs rest (holds_first behaviour l t.plan t.opens_back n) t.workers t.turned) in
        let stores : again_stores k R.table ≡ A = second.stored_again k ∙ its_agains k in
        (omega (arith, stores, sum, e_none, l_none), e_none, l_none)

    -- ---- all tasks together

    each_key : (k : ℕ) → total (λ (x : Step). cond (eqb (stores_of x.1.0) k) (answers_again x.1.0 x.1.1) 0) xs
        ≡ total (λ (e : Entry). cond (eqb e.0 k) (D e.0) 0) es
    each_key k =
        let stores : again_stores k R.table ≡ total (λ (x : Step). in_table behaviour l (agains_one k) x.1) xs = table_total behaviour l (agains_one k) n xs in
        let steps = total_as (λ (x : Step). cond (eqb (stores_of x.1.0) k) (answers_again x.1.0 x.1.1) 0)
        (λ (x : Step). in_table behaviour l (agains_one k) x.1) (again_of_task behaviour l k) xs in
        elim (few_publishes k) [
          | inl z ↦ let a = not_run k z in let b = weighed_none D k z es in omega (arith, stores, steps, a, b)
          | inr o ↦ let a = (counted_run k o).0 in let b = weighed_one D k o es in omega (arith, stores, steps, a, b)
        ]

    all_stores : agains_in xs ≡ total (λ (e : Entry). D e.0) es
    all_stores =
        let N = total (λ (x : Step). stores_of x.1.0) xs + total (λ (e : Entry). e.0) es in
        let a = by_key (λ (x : Step). stores_of x.1.0) (λ (x : Step). answers_again x.1.0 x.1.1) N xs (omega arith) in
        let b = by_key (λ (e : Entry). e.0) (λ (e : Entry). D e.0) N es (omega arith) in
        sym a ∙ (sum_to-same N (λ k. total (λ (x : Step). cond (eqb (stores_of x.1.0) k) (answers_again x.1.0 x.1.1) 0) xs)
        (λ k. total (λ (e : Entry). cond (eqb e.0 k) (D e.0) 0) es) (λ k m. each_key k) ∙ b)

    run_entries : (ds : List Entry) → RunEntries behaviour l ds (total (λ (e : Entry). D e.0) ds)
    run_entries [] = no_entry
    run_entries (e ∷ ds) =
        let further : ℕ = total (λ (x : Entry). D x.0) ds in
        let r = run_entries ds in
        elim (few_publishes e.0) [
          | inl z ↦ let same : further ≡ D e.0 + further = omega (arith, z) in
              subst (RunEntries behaviour l (e ∷ ds)) same (one_idle (λ i. let o = run_once e.0 i in omega (arith, o, z)) r)
          | inr o ↦ let same : suc further ≡ D e.0 + further = omega (arith, o) in subst (RunEntries behaviour l (e ∷ ds)) same (one_run (was_run e.0 o) r)
        ]

    pub agains_are : RunEntries behaviour l es (agains_in xs)
    agains_are = subst (RunEntries behaviour l es) (sym all_stores) (run_entries es)

    -- no entry of a task that is run stays unspent
    pub unspent : Each (λ (e : Entry). IsRunTask behaviour l e.0 → ⊥) rest
    unspent = each_from_in rest (λ e i r. none_left e.1 e.0 (in_entries rest e i) (counted_run e.0 (run_once e.0 r)))
      where
        none_left : (w : When) (k : ℕ) → 1 ≤ entries_for k w rest → Counted k → ⊥
        none_left Early k m c = omega (arith, m, c.1)
        none_left Late k m c = omega (arith, m, c.2)

module _ (behaviour : Behaviour) where
  pub again_turns : (l : Line) → IsPlan l → (n : ℕ) (ts : List ℕ) (es : List Entry) → Each (IsWorker n) ts → (r : RanAgain behaviour l n ts es)
      → ByEntries behaviour l n es r.turns r.steps r.rest
  again_turns l plan n ts es w r = record {
    plan = plan;
    opens_back = r.opens_back;
    workers = subst (Each (IsWorker n)) (sym r.follow) (each_append (IsWorker n) ts (rounds n r.further) w (rounds_workers n r.further));
    turned = r.turned;
  }

  pub without_entries : (l : Line) (n : ℕ) (us : List ℕ) (xs : List Step) → ByTurns behaviour l n us xs → redeliveries_in xs ≡ 0
      → ByEntries behaviour l n [] us xs []
  without_entries l n us xs t z =
      record { plan = t.plan; opens_back = t.opens_back; workers = t.workers; turned = no_entries behaviour l n [] us xs t.turned z }
