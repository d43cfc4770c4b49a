-- A part that a worker is about to return may be returned: its own store of the task was the first, and nobody returned the part before.
use Rattle.std.proofs.Common.{◌≡◌, ◌≢◌, ℕ, zero, suc, ◌+◌, ◌≤◌, Bool, true, false, cond, eqb, List, [], ◌∷◌, ◌++◌, length, Option, Some, None, is_some, refl, sym, ap, ◌∙◌, subst, inl, inr, ⊎_elim, eq-eqb, ne_eqb, append-nil, arith}
use Rattle.std.specs.Prelude.{◌==◌, if◌then◌else◌}
use Rattle.std.proofs.lemmas.Bool.{eqb-true, eqb-false, cases_eq}
use Rattle.canvas_task.specs.Apply.{Behaviour}
use Rattle.canvas_task.specs.declared.outcome.Outcome.{Outcome}
use Rattle.canvas_history.specs.History.{split, join, calls, among, live}
use Rattle.canvas_history.proofs.Calls.{own_heir}
use Rattle.canvas_semantics.specs.Line.{Line, members}
use Rattle.canvas_rewrite.specs.FrozenView.{PCarried}
use Rattle.canvas_rewrite.specs.Planned.{IsPlan}
use Rattle.canvas_rewrite.proofs.Members.{plan_apart}
use Rattle.canvas_envelope.specs.Content.{Content}
use Rattle.canvas_history.specs.Lists.{In, Each, by, total, seconds}
use Rattle.canvas_envelope.specs.declared.envelope.Envelope.{Envelope}
use Rattle.canvas_effects.specs.Job as job
use Rattle.canvas_history.specs.declared.stored.Stored.{Stored}
use Rattle.canvas_history.specs.declared.stored.Stored.TheVariants.{First, Again}
use Rattle.canvas_history.specs.Table as table
use Rattle.canvas_history.specs.Table.{Results, no_results, reply_of, next_of}
use Rattle.canvas_history.specs.Roster.{roster_of}
use Rattle.canvas_history.specs.Answers.{answered_calls}
use Rattle.canvas_runs.specs.Calls.{TableAnswered, AskedAndAnswered, backend_call, backend_calls}
use Rattle.canvas_runs.specs.Core.{Reply, from_queue, from_table, rested, acked, taking, resting, owning, doing, reading, acking, ask, answered, Doing, Jobs, is_due, settled, opens, reads_next, all_read, part_counted, IsCoreRun, left_after}
use Rattle.canvas_runs.specs.Law.{firsts_one}
use Rattle.canvas_runs.specs.Protocol.{Protocol}
use Rattle.canvas_runs.specs.Run.{Run}
use Rattle.canvas_runs.specs.Worker.{worker}
use Rattle.canvas_runs.proofs.Objects.Bridges.{after_all}
use Rattle.canvas_runs.proofs.Objects.CallsOf.{entry_in}
use Rattle.canvas_runs.proofs.Laws.Facts.{X, form, Does, order, value}
use Rattle.canvas_runs.proofs.Laws.FactsOnce.{its_backs}
use Rattle.canvas_runs.proofs.Runs.Finish.{Backed}
use Rattle.canvas_runs.proofs.Laws.FirstLaw.{inner_run, callers}
use Rattle.canvas_runs.proofs.Runs.GoodRuns.{Goods, Closed, GoodAnswer, GoodState, next_good}
use Rattle.canvas_runs.proofs.Plans.Knowing.{found as among_members}
use Rattle.canvas_runs.proofs.Runs.MoreAsks.{reads_cases}
use Rattle.canvas_runs.proofs.Runs.OnceEach.{one_first}
use Rattle.canvas_runs.proofs.Runs.Right.{right_goods, right_closed, answers_right}
use Rattle.canvas_runs.proofs.Lists.Sums.{total-append, in_total, sum_to, sum_to-le, sum_to-both, total_by, find_heavy}
use Rattle.canvas_runs.proofs.Lists.Words.{each_weaker, cond_cases}
use Rattle.canvas_runs.proofs.Laws.Causes.{by_in}

-- ---- lists

-- an element cuts its list
cut_at : {A : Type 0} (xs : List A) (x : A) → In x xs → (before : List A) × (after : List A) × (xs ≡ before ++ x ∷ after)
cut_at [] x i = elim i [ ]
cut_at (y ∷ xs) x (inl e) = ([], xs, ap (λ z. z ∷ xs) (sym e))
cut_at (y ∷ xs) x (inr i) = let r = cut_at xs x i in (y ∷ r.0, r.1, ap (λ l. y ∷ l) r.2)

picked_one : (n t : ℕ) → t ≤ n → 1 ≤ sum_to n (λ k. cond (eqb t k) 1 0)
picked_one zero t l = let same : t ≡ 0 = omega (arith, l) in subst (λ u. 1 ≤ cond (eqb u 0) 1 0) (sym same) (omega arith)
picked_one (suc n) t l = elim (cases_eq t (suc n)) [
  | inl e ↦ let one : ◌≡◌ {A = ℕ} (cond (eqb t (suc n)) 1 0) 1 = ap (λ b. cond b 1 0) (eq-eqb t (suc n) e) in omega (arith, one)
  | inr f ↦ let r = picked_one n t (omega (arith, l, f)) in omega (arith, r)
]

-- ---- what is left after a core run is good, where the answers are
module _ {E : Type 0} (Y : Protocol E) (G : Goods Y) (k : Closed Y G) where
  pub left_good : (s : Doing Y) (xs : List (AskedAndAnswered E)) → GoodState Y G s → IsCoreRun Y s xs → Each (λ x. GoodAnswer Y G x.0 x.1) xs
      → GoodState Y G (left_after Y s xs)
  left_good s [] good c a = good
  left_good s (x ∷ xs) good c a =
      left_good (answered Y s x.1) xs (next_good Y G k s x.1 good (subst (λ z. GoodAnswer Y G z x.1) c.0 a.0)) c.2 a.1

-- ---- parts that are due

-- 1 where the call returns task k's part
abbrev part_by : ℕ → TableAnswered → ℕ
part_by k (table.part g t, y) = cond (eqb t k) 1 0
part_by k c = 0

module _ (Y : Protocol Envelope) where
  -- a part that comes next follows a first store, and a script has something left
  abbrev pub Sure : Doing Y → Type 0
  Sure (doing [] b) = ⊥
  Sure (doing (job.part g t c ∷ js) b) = b ≡ First
  Sure s = Unit {0}

  sure_settled : (js : Jobs Y) (b : Stored) → Sure (settled Y js b)
  sure_settled [] b = tt
  sure_settled (job.store u o ∷ js) First = tt
  sure_settled (job.store u o ∷ js) Again = tt
  sure_settled (job.publish m ∷ js) First = tt
  sure_settled (job.publish m ∷ js) Again = tt
  sure_settled (job.part g u c ∷ js) First = refl
  sure_settled (job.part g u c ∷ js) Again = tt

  sure_next : (g : ℕ) (c : Y.Carried) (fs : List (ℕ × Outcome)) → Sure (reads_next Y g c fs)
  sure_next g c fs = reads_cases Y Sure g c fs (λ e. tt) (λ t e. tt)

  sure_step : (s : Doing Y) (r : Reply Envelope) → Sure (answered Y s r)
  sure_step taking (from_queue None) = tt
  sure_step taking (from_queue (Some e)) = go (Y.opened e)
    where
      go : (x : Option Y.Message) → Sure (opens Y x)
      go None = tt
      go (Some m) = tt
  sure_step resting (rested true) = tt
  sure_step resting (rested false) = tt
  sure_step (owning m) (from_table (table.was First)) = sure_settled (Y.ended m (Y.outcome m)) First
  sure_step (owning m) (from_table (table.was Again)) = tt
  sure_step (doing (job.store u o ∷ js) b) (from_table (table.was a)) = sure_settled js (cond (is_due u js) a b)
  sure_step (doing (job.publish m ∷ js) b) (from_queue None) = sure_settled js b
  sure_step (doing (job.part g u c ∷ js) b) (from_table (table.count i)) =
      cond_cases Sure (eqb (suc i) (Y.size c)) (reads_next Y g c []) acking (λ e. sure_next g c []) (λ e. tt)
  sure_step (reading g c t fs) (from_table (table.found (Some o))) =
      cond_cases Sure (eqb (length (fs ++ (t, o) ∷ [])) (Y.size c)) (settled Y (Y.completed c (fs ++ (t, o) ∷ [])) Again)
      (reads_next Y g c (fs ++ (t, o) ∷ [])) (λ e. sure_settled (Y.completed c (fs ++ (t, o) ∷ [])) Again) (λ e. sure_next g c (fs ++ (t, o) ∷ []))
  sure_step (reading g c t fs) (from_table (table.found None)) = tt
  sure_step acking acked = tt
  sure_step s r = tt

  pub sure_left : (s : Doing Y) (xs : List (AskedAndAnswered Envelope)) → Sure s → Sure (left_after Y s xs)
  sure_left s [] k = k
  sure_left s (x ∷ xs) k = sure_left (answered Y s x.1) xs (sure_step s x.1)

  -- 1 where the jobs return the part of task k, unless a store before decides it
  abbrev owe : ℕ → Jobs Y → Stored → ℕ
  owe k [] b = 0
  owe k (job.store t o ∷ js) b = cond (is_due t js) 0 (owe k js b)
  owe k (job.publish m ∷ js) b = owe k js b
  owe k (job.part g t c ∷ js) First = cond (eqb t k) 1 0
  owe k (job.part g t c ∷ js) Again = 0

  abbrev owed : ℕ → Doing Y → ℕ
  owed k (doing js b) = owe k js b
  owed k s = 0

  owed_settled : (k : ℕ) (js : Jobs Y) (b : Stored) → owed k (settled Y js b) ≤ owe k js b
  owed_settled k [] b = omega arith
  owed_settled k (job.store u o ∷ js) First = omega arith
  owed_settled k (job.store u o ∷ js) Again = omega arith
  owed_settled k (job.publish m ∷ js) First = omega arith
  owed_settled k (job.publish m ∷ js) Again = omega arith
  owed_settled k (job.part g u c ∷ js) First = omega arith
  owed_settled k (job.part g u c ∷ js) Again = omega arith

  owed_next : (k g : ℕ) (c : Y.Carried) (fs : List (ℕ × Outcome)) → owed k (reads_next Y g c fs) ≡ 0
  owed_next k g c fs = reads_cases Y (λ s. owed k s ≡ 0) g c fs (λ e. refl) (λ t e. refl)

  again_none : (k : ℕ) (js : Jobs Y) → owe k js Again ≡ 0
  again_none k [] = refl
  again_none k (job.store t o ∷ js) = cond_cases (λ n. n ≡ 0) (is_due t js) 0 (owe k js Again) (λ e. refl) (λ e. again_none k js)
  again_none k (job.publish m ∷ js) = again_none k js
  again_none k (job.part g t c ∷ js) = refl

  true_false : true ≡ false → ⊥
  true_false e = cc

  -- a part that is due is the task's
  due_owes : (k t : ℕ) (js : Jobs Y) (b : Stored) → is_due t js ≡ true → owe k js b ≤ cond (eqb t k) 1 0
  due_owes k t [] b h = absurd (true_false (sym h))
  due_owes k t (job.store u o ∷ js) b h =
      cond_cases (λ n. n ≤ cond (eqb t k) 1 0) (is_due u js) 0 (owe k js b) (λ e. omega arith) (λ e. due_owes k t js b h)
  due_owes k t (job.publish m ∷ js) b h = due_owes k t js b h
  due_owes k t (job.part g u c ∷ js) First h = subst (λ v. cond (eqb v k) 1 0 ≤ cond (eqb t k) 1 0) (eqb-true t u h) (omega arith)
  due_owes k t (job.part g u c ∷ js) Again h = omega arith

  -- and one that isn't is another's
  not_owes : (t : ℕ) (js : Jobs Y) (b : Stored) → is_due t js ≡ false → owe t js b ≡ 0
  not_owes t [] b h = refl
  not_owes t (job.store u o ∷ js) b h = cond_cases (λ n. n ≡ 0) (is_due u js) 0 (owe t js b) (λ e. refl) (λ e. not_owes t js b h)
  not_owes t (job.publish m ∷ js) b h = not_owes t js b h
  not_owes t (job.part g u c ∷ js) First h = ap (λ b. cond b 1 0) (ne_eqb u t (λ e. eqb-false t u h (sym e)))
  not_owes t (job.part g u c ∷ js) Again h = refl

  abbrev among_these : ℕ → List ℕ → ℕ
  among_these k us = total (λ u. cond (eqb u k) 1 0) us

  owe_backed : (k : ℕ) (us : List ℕ) (js : Jobs Y) (b : Stored) → Backed Y us js → owe k js b ≤ among_these k us
  owe_backed k us [] b h = omega arith
  owe_backed k us (job.store t o ∷ js) b h = go (is_due t js) refl (owe_backed k (t ∷ us) js b h)
    where
      other : (d : Bool) → eqb t k ≡ d → is_due t js ≡ false → owe k js b ≤ cond d 1 0 + among_these k us → owe k js b ≤ among_these k us
      other true e f r = let z : owe k js b ≡ 0 = subst (λ v. owe v js b ≡ 0) (eqb-true t k e) (not_owes t js b f) in omega (arith, z)
      other false e f r = omega (arith, r)

      go : (d : Bool) → is_due t js ≡ d → owe k js b ≤ cond (eqb t k) 1 0 + among_these k us → cond d 0 (owe k js b) ≤ among_these k us
      go true e r = omega arith
      go false e r = other (eqb t k) refl e r
  owe_backed k us (job.publish m ∷ js) b h = owe_backed k us js b h
  owe_backed k us (job.part g t c ∷ js) First h = in_total (λ u. cond (eqb u k) 1 0) us t h.0
  owe_backed k us (job.part g t c ∷ js) Again h = omega arith

module _ (behaviour : Behaviour) (l : Line) (plan : IsPlan l) where
  abbrev W : Protocol Envelope
  W = worker behaviour l

  abbrev pub G : Goods W
  G = right_goods (X behaviour l plan) (form behaviour l plan) (Does behaviour l plan)

  abbrev its_closed : Closed W G
  its_closed = right_closed (X behaviour l plan) (form behaviour l plan) (Does behaviour l plan) (order behaviour l plan) (value behaviour l plan)

  -- a part that is returned, or is still due, has had a first store
  abbrev Parts : ℕ → Doing W → Reply Envelope → Type 0
  Parts k s r = total (part_by k) (backend_call (ask W s) r) + owed W k (answered W s r) ≤ owed W k s + total (firsts_one k) (backend_call (ask W s) r)

  parts_step : (k : ℕ) (s : Doing W) (r : Reply Envelope) → GoodState W G s → Sure W s → Parts k s r
  parts_step k taking (from_queue None) p h = omega arith
  parts_step k taking (from_queue (Some e)) p h = go (W.opened e)
    where
      go : (x : Option Content) → 0 + owed W k (opens W x) ≤ 0 + 0
      go None = omega arith
      go (Some m) = omega arith
  parts_step k resting (rested true) p h = omega arith
  parts_step k (owning m) (from_table (table.was First)) p h =
      let a = owed_settled W k (W.ended m (W.outcome m)) First in
      let b = owe_backed W k (W.no m ∷ []) (W.ended m (W.outcome m)) First ((its_backs behaviour l plan).ended m (W.outcome m) p.0) in
      omega (arith, a, b)
  parts_step k (owning m) (from_table (table.was Again)) p h = omega arith
  parts_step k (doing (job.store t o ∷ js) b) (from_table (table.was First)) p h =
      let a = owed_settled W k js (cond (is_due t js) First b) in
      let c = go (is_due t js) refl in
      omega (arith, a, c)
    where
      go : (d : Bool) → is_due t js ≡ d → owe W k js (cond d First b) ≤ cond d 0 (owe W k js b) + cond (eqb t k) 1 0
      go true e = let z = due_owes W k t js First e in omega (arith, z)
      go false e = omega arith
  parts_step k (doing (job.store t o ∷ js) b) (from_table (table.was Again)) p h =
      let a = owed_settled W k js (cond (is_due t js) Again b) in
      let c = go (is_due t js) in
      omega (arith, a, c)
    where
      go : (d : Bool) → owe W k js (cond d Again b) ≤ cond d 0 (owe W k js b)
      go true = let z = again_none W k js in omega (arith, z)
      go false = omega arith
  parts_step k (doing (job.publish m ∷ js) b) (from_queue None) p h = let a = owed_settled W k js b in omega (arith, a)
  parts_step k (doing (job.part g t c ∷ js) b) (from_table (table.count i)) p h =
      let old : owe W k (job.part g t c ∷ js) b ≡ cond (eqb t k) 1 0 = ap (λ d. owe W k (job.part g t c ∷ js) d) h in
      let z : owed W k (part_counted W g c i) ≡ 0 =
      cond_cases (λ s. owed W k s ≡ 0) (eqb (suc i) c.size) (reads_next W g c []) acking (λ e. owed_next W k g c []) (λ e. refl) in
      omega (arith, old, z)
  parts_step k (reading g c t fs) (from_table (table.found (Some o))) p h =
      let z : owed W k (all_read W g c (fs ++ (t, o) ∷ [])) ≤ 0 =
      cond_cases (λ s. owed W k s ≤ 0) (eqb (length (fs ++ (t, o) ∷ [])) c.size) (settled W (W.completed c (fs ++ (t, o) ∷ [])) Again)
      (reads_next W g c (fs ++ (t, o) ∷ []))
      (λ e. let a = owed_settled W k (W.completed c (fs ++ (t, o) ∷ [])) Again in
      let n = again_none W k (W.completed c (fs ++ (t, o) ∷ [])) in omega (arith, a, n))
      (λ e. let n = owed_next W k g c (fs ++ (t, o) ∷ []) in omega (arith, n)) in
      omega (arith, z)
  parts_step k (reading g c t fs) (from_table (table.found None)) p h = omega arith
  parts_step k acking acked p h = omega arith
  parts_step k (doing (job.part g t c ∷ js) b) (from_table y) p h =
      let old : owe W k (job.part g t c ∷ js) b ≡ cond (eqb t k) 1 0 = ap (λ d. owe W k (job.part g t c ∷ js) d) h in omega (arith, old)
  parts_step k s r p h = omega arith

  parts_run : (k : ℕ) (s : Doing W) (ys : List (AskedAndAnswered Envelope)) → GoodState W G s → Sure W s → IsCoreRun W s ys
      → Each (λ (y : AskedAndAnswered Envelope). GoodAnswer W G y.0 y.1) ys
      → total (part_by k) (backend_calls ys) + owed W k (left_after W s ys) ≤ owed W k s + total (firsts_one k) (backend_calls ys)
  parts_run k s [] p h c a = omega arith
  parts_run k s (y ∷ ys) p h c a =
      let good = next_good W G its_closed s y.1 p (subst (λ z. GoodAnswer W G z y.1) c.0 a.0) in
      let later = parts_run k (answered W s y.1) ys good (sure_step W s y.1) c.2 a.1 in
      let now : total (part_by k) (backend_call y.0 y.1) + owed W k (answered W s y.1) ≤ owed W k s + total (firsts_one k) (backend_call y.0 y.1) =
      subst (λ z. total (part_by k) (backend_call z y.1) + owed W k (answered W s y.1) ≤ owed W k s + total (firsts_one k) (backend_call z y.1)) (sym c.0)
      (parts_step k s y.1 p h) in
      omega (
        arith,
        now,
        later,
        total-append (part_by k) (backend_call y.0 y.1) (backend_calls ys),
        total-append (firsts_one k) (backend_call y.0 y.1) (backend_calls ys),
      )

  -- a task of which no part is returned
  not_returned : (t : ℕ) (es : table.Log) (s : Results) → s.returned t ≡ false → total (part_by t) (seconds (answered_calls es)) ≡ 0
      → (after_all l (plan_apart l plan) s es).returned t ≡ false
  not_returned t [] s h z = h
  not_returned t (split p q ∷ es) s h z = not_returned t es s h z
  not_returned t (join p q ∷ es) s h z = not_returned t es s h z
  not_returned t (calls p (table.store u o) y ∷ es) s h z = not_returned t es (next_of s (table.store u o)) h (omega (arith, z))
  not_returned t (calls p (table.read u) y ∷ es) s h z = not_returned t es (next_of s (table.read u)) h (omega (arith, z))
  not_returned t (calls p (table.part g u) y ∷ es) s h z =
      not_returned t es (next_of s (table.part g u)) (stays (t == u) refl) (omega (arith, z))
    where
      stays : (b : Bool) → (t == u) ≡ b → (if b then true else s.returned t) ≡ false
      stays true e = let one : ◌≡◌ {A = ℕ} (cond (eqb u t) 1 0) 1 = ap (λ b. cond b 1 0) (eq-eqb u t (sym (eqb-true t u e))) in
          absurd (omega (arith, z, one))
      stays false e = h

  module _ (r : Run behaviour l) (none_read : r.closing ≡ []) where
    its_answers : (p : ℕ) → Each (λ (y : AskedAndAnswered Envelope). GoodAnswer W G y.0 y.1) (r.core p)
    its_answers p = answers_right (X behaviour l plan) (form behaviour l plan) (Does behaviour l plan) (order behaviour l plan) (value behaviour l plan)
        (inner_run behaviour l plan r) p

    pub good_left : (p : ℕ) → GoodState W G (left_after W taking (r.core p))
    good_left p = left_good W G its_closed taking (r.core p) tt (r.is_core p) (its_answers p)

    -- a caller's calls of the table are its core run's
    rows_by : (p : ℕ) → by p (answered_calls r.table) ≡ backend_calls (r.core p)
    rows_by p = r.keeps p ∙ (ap (λ cs. backend_calls (r.core p) ++ cond (eqb p 0) cs []) none_read ∙ none (eqb p 0))
      where
        none : (b : Bool) → backend_calls (r.core p) ++ cond b [] [] ≡ backend_calls (r.core p)
        none true = append-nil (backend_calls (r.core p))
        none false = append-nil (backend_calls (r.core p))

    module _ (p g t : ℕ) (c : PCarried) (js : Jobs W) (b : Stored) (next : left_after W taking (r.core p) ≡ doing (job.part g t c ∷ js) b) where
      -- its caller's first stores of the task are more than the parts
      mine : total (part_by t) (backend_calls (r.core p)) + 1 ≤ total (firsts_one t) (backend_calls (r.core p))
      mine =
          let run = parts_run t taking (r.core p) tt tt (r.is_core p) (its_answers p) in
          let sure : b ≡ First = subst (Sure W) next (sure_left W taking (r.core p) tt) in
          let one : owed W t (left_after W taking (r.core p)) ≡ 1 =
          ap (owed W t) next ∙ (ap (λ d. owe W t (job.part g t c ∷ js) d) sure ∙ ap (λ b. cond b 1 0) (eq-eqb t t refl)) in
          omega (arith, run, one)

      others : (q : ℕ) → total (part_by t) (backend_calls (r.core q)) ≤ total (firsts_one t) (backend_calls (r.core q))
      others q = let run = parts_run t taking (r.core q) tt tt (r.is_core q) (its_answers q) in omega (arith, run)

      abbrev parts_of : ℕ → ℕ
      parts_of q = total (part_by t) (by q (answered_calls r.table))

      abbrev firsts_of : ℕ → ℕ
      firsts_of q = total (firsts_one t) (by q (answered_calls r.table))

      each_caller : (q : ℕ) → parts_of q + cond (eqb p q) 1 0 ≤ firsts_of q
      each_caller q = go (eqb p q) refl
        where
          go : (d : Bool) → eqb p q ≡ d → parts_of q + cond d 1 0 ≤ firsts_of q
          go true e = subst (λ u. parts_of u + 1 ≤ firsts_of u) (eqb-true p q e)
              (subst (λ cs. total (part_by t) cs + 1 ≤ total (firsts_one t) cs) (sym (rows_by p)) mine)
          go false e = let o = subst (λ cs. total (part_by t) cs ≤ total (firsts_one t) cs) (sym (rows_by q)) (others q) in omega (arith, o)

      none_yet : total (part_by t) (seconds (answered_calls r.table)) ≡ 0
      none_yet =
          let N : ℕ = callers behaviour l plan r + p in
          let below : Each (λ (e : ℕ × TableAnswered). e.0 ≤ N) (answered_calls r.table) =
          each_weaker (λ e h. omega (arith, h)) (answered_calls r.table) (inner_run behaviour l plan r).backend_callers in
          let parts = total_by (part_by t) N (answered_calls r.table) below in
          let firsts = total_by (firsts_one t) N (answered_calls r.table) below in
          let each = sum_to-le N (λ q. parts_of q + cond (eqb p q) 1 0) firsts_of each_caller in
          let both = sum_to-both N parts_of (λ q. cond (eqb p q) 1 0) in
          let one = picked_one N p (omega arith) in
          let few = one_first t [] [] (seconds (answered_calls r.table)) (inner_run behaviour l plan r).table in
          omega (arith, parts, firsts, each, both, one, few)

      is_free : (table.results (roster_of l) r.table).returned t ≡ false
      is_free = not_returned t r.table no_results refl none_yet

      is_first : among p (live r.table) ≡ true → table.HasFirst r.table p t
      is_first alive = ⊎_elim (λ (z : firsts_of p ≡ 0). absurd (let m = each_caller p in let one : ◌≡◌ {A = ℕ} (cond (eqb p p) 1 0) 1 =
          ap (λ b. cond b 1 0) (eq-eqb p p refl) in omega (arith, m, z, one)))
          (λ h. heavy h.0 h.1 h.2) (find_heavy (firsts_one t) (by p (answered_calls r.table)))
        where
          named : (u : ℕ) (d : Bool) → eqb u t ≡ d → ◌≢◌ {A = ℕ} (cond d 1 0) 0 → u ≡ t
          named u true e n = eqb-true u t e
          named u false e n = absurd (n refl)

          heavy : (x : TableAnswered) → In x (by p (answered_calls r.table)) → firsts_one t x ≢ 0 → table.HasFirst r.table p t
          heavy (table.store u o, table.was First) i n =
              let same : u ≡ t = named u (eqb u t) refl n in
              let there : In (calls p (table.store u o) (table.was First)) r.table =
              entry_in r.table (p, (table.store u o, table.was First)) (by_in p (table.store u o, table.was First) (answered_calls r.table) i) in
              let cut = cut_at r.table (calls p (table.store t o) (table.was First))
              (subst (λ v. In (calls p (table.store v o) (table.was First)) r.table) same there) in
              record {
                before = cut.0;
                rest = cut.1;
                caller = p;
                outcome = o;
                is = cut.2;
                own = own_heir no_results (reply_of (roster_of l)) next_of (table.May (roster_of l)) [] r.table p r.table_legal alive;
              }
          heavy x i n = absurd (n refl)

      -- so the part may be returned
      pub part_may : among p (live r.table) ≡ true → table.May (roster_of l) r.table (table.results (roster_of l) r.table) p (table.part g t)
      part_may alive =
          let good : GoodState W G (doing (job.part g t c ∷ js) b) = subst (GoodState W G) next (good_left p) in
          let formed = good.0.0 in
          (ap is_some formed.2.1.0, among_members t (members l g) ((order behaviour l plan).member g t c formed), is_first alive, is_free)
