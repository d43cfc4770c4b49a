-- Each publish is by the caller that brought its event about, and a chord is completed at most once.
use Rattle.std.proofs.Common.{⊎_elim, ◌≡◌, ℕ, suc, ◌≤◌, Bool, true, false, cond, eqb, List, [], ◌∷◌, length, Option, Some, refl, sym, ap, subst, ◌∙◌, inl, inr, arith}
use Rattle.std.proofs.lemmas.Bool.{eqb-true, eq-eqb}
use Rattle.canvas_task.specs.Apply.{Behaviour}
use Rattle.canvas_history.specs.History.{Entry, calls}
use Rattle.canvas_semantics.specs.Line.{Line, members}
use Rattle.canvas_rewrite.specs.Planned.{IsPlan}
use Rattle.canvas_rewrite.proofs.Members.{plan_apart}
use Rattle.canvas_envelope.specs.Content.{Content, number_of}
use Rattle.canvas_history.specs.Lists.{In, by, total, seconds}
use Rattle.canvas_effects.specs.Events.{Event, start, running, end_of_line, completion, DoesIn}
use Rattle.canvas_effects.specs.Job as job
use Rattle.canvas_envelope.specs.declared.envelope.Envelope.{Envelope}
use Rattle.canvas_history.specs.declared.stored.Stored.TheVariants.{First}
use Rattle.canvas_history.specs.Table.{TableCall, TableReply, store, part, was, count, no_results}
use Rattle.canvas_history.specs.Queue.{publish}
use Rattle.canvas_history.specs.Answers.{answered_calls}
use Rattle.canvas_runs.specs.Causes.{Brought, ByCause, ByItsCause, completes_one, completions}
use Rattle.canvas_runs.specs.Calls.{TableAnswered}
use Rattle.canvas_runs.specs.Logs.{queue_calls}
use Rattle.canvas_runs.specs.Run.{Run}
use Rattle.canvas_runs.specs.Book.{book_of}
use Rattle.canvas_runs.specs.Worker.{sealed, opened}
use Rattle.canvas_runs.proofs.Objects.Bridges.{table_is, table_starts}
use Rattle.canvas_runs.proofs.Objects.CallsOf.{seconds_in, entry_in, queue_call_in}
use Rattle.canvas_runs.proofs.Laws.Facts.{X, form, Does, order, value}
use Rattle.canvas_runs.proofs.Laws.FactsOnce.{once}
use Rattle.canvas_runs.proofs.Laws.FirstLaw.{inner_run}
use Rattle.canvas_runs.proofs.Objects.Histories.{GoodPublish, each_seconds}
use Rattle.canvas_runs.proofs.Runs.OnceEach.{shows, shows_once, publishes_task, of_opened, is_event, one_caller}
use Rattle.canvas_runs.proofs.Runs.Right.{IsRunSealed, publishes_right}
use Rattle.canvas_runs.proofs.Lists.Sums.{total-le, find_heavy, in_total}
use Rattle.canvas_runs.proofs.Lists.Words.{in_each}

-- ---- entries and calls

pub by_in : {A : Type 0} (p : ℕ) (c : A) (es : List (ℕ × A)) → In c (by p es) → In (p, c) es
by_in p c [] i = elim i [ ]
by_in {A} p c (e ∷ es) i = go (eqb e.0 p) refl (λ k. by_in p c es k) i
  where
    go : (b : Bool) → eqb e.0 p ≡ b → (In c (by p es) → In (p, c) es) → In c (cond b (e.1 ∷ by p es) (by p es)) → In (p, c) (e ∷ es)
    go true h f (inl s) = inl (λ j. (sym (eqb-true e.0 p h) j, s j))
    go true h f (inr k) = inr (f k)
    go false h f k = inr (f k)

in_by : {A : Type 0} (p : ℕ) (c : A) (es : List (ℕ × A)) → In (p, c) es → In c (by p es)
in_by p c [] i = elim i [ ]
in_by {A} p c (e ∷ es) (inl s) =
    subst (λ b. In c (cond b (e.1 ∷ by p es) (by p es))) (sym (eq-eqb e.0 p (sym (ap (λ (x : ℕ × A). x.0) s)))) (inl (ap (λ (x : ℕ × A). x.1) s))
in_by p c (e ∷ es) (inr i) = go (eqb e.0 p) (in_by p c es i)
  where
    go : (b : Bool) → In c (by p es) → In c (cond b (e.1 ∷ by p es) (by p es))
    go true k = inr k
    go false k = k

-- the entry of a call
abbrev row : ℕ × TableAnswered → Entry TableCall TableReply
row x = calls x.0 x.1.0 x.1.1

module _ (behaviour : Behaviour) (l : Line) (plan : IsPlan l) (r : Run behaviour l) where
  -- what shows an event
  brought : (p : ℕ) (v : Event) (c : TableAnswered) → (shows (X behaviour l plan) (form behaviour l plan) v c ≡ 0 → ⊥) → In (row (p, c)) r.table
      → Brought l p r.table v
  brought p start (store t o, was First) d i = absurd (d refl)
  brought p (running k) (store t o, was First) d i = absurd (d refl)
  brought p (completion g) (store t o, was First) d i = absurd (d refl)
  brought p (end_of_line k) (store t o, was First) d i = go (eqb t k) refl d
    where
      go : (b : Bool) → eqb t k ≡ b → (◌≡◌ {A = ℕ} (cond b 1 0) 0 → ⊥) → Brought l p r.table (end_of_line k)
      go true e d = (o, subst (λ n. In (calls p (store n o) (was First)) r.table) (eqb-true t k e) i)
      go false e d = absurd (d refl)
  brought p v (part h t, count n) d i = go (eqb (suc n) (length (members l h))) refl v d
    where
      go : (b : Bool) → eqb (suc n) (length (members l h)) ≡ b → (v : Event) → (◌≡◌ {A = ℕ} (cond b (is_event (completion h) v) 0) 0 → ⊥)
          → Brought l p r.table v
      go false e v d = absurd (d refl)
      go true e start d = absurd (d refl)
      go true e (running k) d = absurd (d refl)
      go true e (end_of_line k) d = absurd (d refl)
      go true e (completion g) d = same (eqb h g) refl d
        where
          same : (b : Bool) → eqb h g ≡ b → (◌≡◌ {A = ℕ} (cond b 1 0) 0 → ⊥) → Brought l p r.table (completion g)
          same true f d =
              let is : h ≡ g = eqb-true h g f in (
                t,
                n,
                subst (λ k. In (calls p (part k t) (count n)) r.table) is i,
                subst (λ k. suc n ≡ length (members l k)) is (eqb-true (suc n) (length (members l h)) e),
              )
          same false f d = absurd (d refl)
  brought p v c d i = absurd (d refl)

  at_start : (p : ℕ) (v : Event) → 1 ≤ cond (eqb p 0) (is_event start v) 0 → Brought l p r.table v
  at_start p v m = go (eqb p 0) refl v m
    where
      go : (b : Bool) → eqb p 0 ≡ b → (v : Event) → 1 ≤ cond b (is_event start v) 0 → Brought l p r.table v
      go false e v m = absurd (omega arith)
      go true e start m = eqb-true p 0 e
      go true e (running k) m = absurd (omega arith)
      go true e (end_of_line k) m = absurd (omega arith)
      go true e (completion g) m = absurd (omega arith)

  -- a publish, with the message that its envelope opens as
  caused : (p : ℕ) (e : Envelope) (a : Option Envelope) → In (calls p (publish e) a) r.queue → (c : Content) × (v : Event) × (e ≡ sealed c)
      × (opened (book_of l) e ≡ Some c) × DoesIn behaviour l v (job.publish c) × Brought l p r.table v
  caused p e a i =
      let there : In (p, (publish e, a)) (queue_calls r.queue) = queue_call_in r.queue p (publish e) a refl i in
      let good : IsRunSealed (X behaviour l plan) (form behaviour l plan) (Does behaviour l plan) (order behaviour l plan) (value behaviour l plan)
      (inner_run behaviour l plan r) e =
      in_each (GoodPublish (IsRunSealed (X behaviour l plan) (form behaviour l plan) (Does behaviour l plan) (order behaviour l plan) (value behaviour l plan)
      (inner_run behaviour l plan r))) (seconds (queue_calls r.queue))
      (each_seconds (GoodPublish
      (IsRunSealed (X behaviour l plan) (form behaviour l plan) (Does behaviour l plan) (order behaviour l plan) (value behaviour l plan)
      (inner_run behaviour l plan r))) (queue_calls r.queue)
      (publishes_right (X behaviour l plan) (form behaviour l plan) (Does behaviour l plan) (order behaviour l plan) (value behaviour l plan)
      (inner_run behaviour l plan r))) (publish e, a) (seconds_in (queue_calls r.queue) (p, (publish e, a)) there) in
      let c : Content = good.0 in
      let k : ℕ = number_of c.own in
      let v : Event = good.4.0 in
      let does : DoesIn behaviour l v (job.publish c) = good.4.1 in
      let weight : publishes_task (X behaviour l plan) k (publish e, a) ≡ 1 =
      ap (λ x. of_opened (X behaviour l plan) k x) (ap (X behaviour l plan).opened good.1 ∙ (order behaviour l plan).opened c good.3 good.2)
      ∙ ap (λ b. cond b 1 0) (eq-eqb k k refl) in
      let calls_of : ℕ = total (publishes_task (X behaviour l plan) k) (by p (queue_calls r.queue)) in
      let some : publishes_task (X behaviour l plan) k (publish e, a) ≤ calls_of =
      in_total (publishes_task (X behaviour l plan) k) (by p (queue_calls r.queue)) (publish e, a) (in_by p (publish e, a) (queue_calls r.queue) there) in
      let bound = one_caller (X behaviour l plan) (form behaviour l plan) (Does behaviour l plan) (order behaviour l plan) (value behaviour l plan)
      (once behaviour l plan) (inner_run behaviour l plan r) k v
      (λ w n other q. (once behaviour l plan).event w v n c other does q) p in
      let shown : Brought l p r.table v = ⊎_elim
      (λ (z : total (shows (X behaviour l plan) (form behaviour l plan) v) (by p (answered_calls r.table)) ≡ 0). at_start p v
      (omega (arith, weight, some, bound, z)))
      (λ (h : (x : TableAnswered) × In x (by p (answered_calls r.table)) × (shows (X behaviour l plan) (form behaviour l plan) v x ≡ 0 → ⊥)).
      brought p v h.0 h.2 (entry_in r.table (p, h.0) (by_in p h.0 (answered_calls r.table) h.1)))
      (find_heavy (shows (X behaviour l plan) (form behaviour l plan) v) (by p (answered_calls r.table))) in
      (c, v, good.1, ap (opened (book_of l)) good.1 ∙ (order behaviour l plan).opened c good.3 good.2, does, shown)

  pub by_cause : ByCause behaviour l r.queue r.table
  by_cause = caused

  same_message : (c d : Content) → ◌≡◌ {A = Option Content} (Some c) (Some d) → c ≡ d
  same_message c d e = cc

  pub by_its_cause : ByItsCause behaviour l r.queue r.table
  by_its_cause v c does p e a i opens =
      let k = caused p e a i in
      let same : k.0 ≡ c = same_message k.0 c (sym k.3 ∙ opens) in
      subst (λ w. Brought l p r.table w) ((once behaviour l plan).event k.1 v k.0 c k.4 does (ap (λ (d : Content). number_of d.own) same)) k.5

  -- a chord is completed at most once
  completes_less : (g : ℕ) (c : TableAnswered) → completes_one l g c ≤ shows (X behaviour l plan) (form behaviour l plan) (completion g) c
  completes_less g (store t o, was First) = omega arith
  completes_less g (part h t, count n) = go (eqb h g) refl
    where
      go : (b : Bool) → eqb h g ≡ b → cond b (cond (eqb (suc n) (length (members l g))) 1 0) 0 ≤ cond (eqb (suc n) (length (members l h))) (cond b 1 0) 0
      go false e = omega arith
      go true e = subst (λ k. cond (eqb (suc n) (length (members l k))) 1 0 ≤ cond (eqb (suc n) (length (members l h))) 1 0) (eqb-true h g e) (omega arith)
  completes_less g c = omega arith

  pub completed_once : (g : ℕ) → completions l g r.table ≤ 1
  completed_once g =
      let table = table_is l (plan_apart l plan) [] r.table no_results [] [] refl (table_starts l (plan_apart l plan)) r.table_legal in
      let less = total-le (completes_one l g) (shows (X behaviour l plan) (form behaviour l plan) (completion g)) (completes_less g)
      (seconds (answered_calls r.table)) in
      let once = shows_once (X behaviour l plan) (form behaviour l plan) (completion g) (seconds (answered_calls r.table)) table in
      omega (arith, less, once)
