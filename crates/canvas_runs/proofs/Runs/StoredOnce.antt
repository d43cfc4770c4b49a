-- In every run a store answers Again only where its task's message was delivered again, and only a message's own store does.
use Rattle.std.proofs.Common.{⊎_elim, ◌≡◌, ℕ, zero, suc, ◌+◌, ◌≤◌, Bool, true, false, cond, eqb, List, [], ◌∷◌, ◌++◌, map, length, Option, Some, None, refl, sym, ap, subst, ◌∙◌, arith}
use Rattle.std.proofs.lemmas.Bool.{eqb-true, eq-eqb}
use Rattle.canvas_task.specs.declared.outcome.Outcome.{Outcome}
use Rattle.canvas_history.specs.declared.stored.Stored.{Stored}
use Rattle.canvas_history.specs.declared.stored.Stored.TheVariants.{First, Again}
use Rattle.canvas_history.specs.Table as table
use Rattle.canvas_history.specs.Queue as queue
use Rattle.canvas_history.specs.Lists.{Each, total, by, seconds}
use Rattle.canvas_effects.specs.Job as job
use Rattle.canvas_effects.specs.Job.{store, publish}
use Rattle.canvas_runs.specs.Protocol.{Protocol}
use Rattle.canvas_runs.specs.Core.{from_queue, from_table, refused, rested, acked, taking, resting, owning, doing, reading, acking, Jobs, Doing, Asked, Answer, is_due, settled, opens, reads_next, all_read, ask, answered, IsCoreRun}
use Rattle.canvas_effects.specs.Events.{Event, start, running, end_of_line, completion}
use Rattle.canvas_runs.proofs.Runs.MoreAsks.{reads_cases}
use Rattle.canvas_runs.proofs.Runs.Meaning.{JobOf, Form, names, keeps, Ordered, RunsNone, IsRun, IsSkipped, Evaluates, Once, KeptOnce}
use Rattle.canvas_runs.specs.Calls.{QueueAnswered, TableAnswered, broker_call, backend_call, broker_calls, backend_calls}
use Rattle.canvas_runs.proofs.Objects.Accords.{FollowsCore, follows_all, follows_publish, follows_list_take, follows_core_take, follows_again}
use Rattle.canvas_runs.proofs.Objects.Replay.{IsQueue, IsTable, FirstWins, kept_first, look_up}
use Rattle.canvas_runs.proofs.Runs.Run.{Run}
use Rattle.canvas_runs.specs.Law.{firsts_one, agains_one}
use Rattle.canvas_runs.specs.Run.{IsRead, published_all}
use Rattle.canvas_runs.proofs.Lists.Words.{in_each}
use Rattle.canvas_runs.proofs.Runs.GoodRuns.{GoodAnswer, GoodSoFar, GoodState, next_good, more_found, all_found}
use Rattle.canvas_runs.proofs.Runs.Right.{right_goods, right_closed, answers_right, CallRight, calls_right}
use Rattle.canvas_runs.proofs.Runs.OnceEach.{same_event, same_event-itself, is_event, is_running, of_opened, publishes_task, shows, shows_once, published_once}
use Rattle.canvas_runs.proofs.Lists.Sums.{total-append, sum_to, sum_to-le, sum_to-both, total_by, find_heavy}

module _ {E : Type 0} (X : Protocol E) where
  -- 1 where the call stores the outcome of task k, First or Again
  abbrev pub stores_task : ℕ → TableAnswered → ℕ
  stores_task k (table.store t o, table.was b) = cond (eqb t k) 1 0
  stores_task k c = 0

  -- 1 where the call takes an envelope of task k
  abbrev pub takes_task : ℕ → QueueAnswered E → ℕ
  takes_task k (queue.take, Some e) = of_opened X k (X.opened e)
  takes_task k c = 0

  -- 1 where the call delivers an envelope of task k again
  abbrev pub agains_task : ℕ → QueueAnswered E → ℕ
  agains_task k (queue.redeliver e, r) = of_opened X k (X.opened e)
  agains_task k c = 0

  -- as many takes of a task as publishes and redeliveries, at most
  queue_total : (k : ℕ) (ts q : List E) (cs : List (QueueAnswered E)) → IsQueue ts q cs →
      total (takes_task k) cs ≤ total (λ e. of_opened X k (X.opened e)) q + (total (publishes_task X k) cs + total (agains_task k) cs)
  queue_total k ts q [] l = omega arith
  queue_total k ts q ((queue.publish e, r) ∷ cs) l =
      let r = queue_total k ts (q ++ e ∷ []) cs l in
      omega (arith, total-append (λ e. of_opened X k (X.opened e)) q (e ∷ []))
  queue_total k ts q ((queue.redeliver e, r) ∷ cs) l =
      let r = queue_total k ts (q ++ e ∷ []) cs l.1 in
      omega (arith, total-append (λ e. of_opened X k (X.opened e)) q (e ∷ []))
  queue_total k ts q ((queue.take, Some e) ∷ cs) (rest, same, l) =
      let r = queue_total k (e ∷ ts) rest cs l in
      let s : total (λ e. of_opened X k (X.opened e)) q ≡ of_opened X k (X.opened e) + total (λ e. of_opened X k (X.opened e)) rest =
      ap (total (λ e. of_opened X k (X.opened e))) same in
      omega arith
  queue_total k ts q (c ∷ cs) l = elim l [ ]

  abbrev pub taken_total : ℕ → List E → ℕ
  taken_total k [] = 0
  taken_total k (t ∷ ts) = takes_task k (queue.take, Some t) + taken_total k ts

  pub taken_total-append : (k : ℕ) (ts : List E) (t : E) → taken_total k (ts ++ t ∷ [])
      ≡ taken_total k ts + takes_task k (queue.take, Some t)
  taken_total-append k [] t = omega arith
  taken_total-append k (s ∷ ts) t = let r = taken_total-append k ts t in omega arith

  follows_taken : {ts : List E} {cs ls : List (QueueAnswered E)} (k : ℕ) → FollowsCore ts cs ls
      → total (takes_task k) cs ≤ taken_total k ts + total (takes_task k) ls
  follows_taken k follows_all = omega arith
  follows_taken k (follows_publish f) = let r = follows_taken k f in omega arith
  follows_taken k (follows_list_take {ts = ts} {t = t} f) = let r = follows_taken k f in omega (arith, taken_total-append k ts t)
  follows_taken k (follows_core_take f) = let r = follows_taken k f in omega arith
  follows_taken k (follows_again f) = let r = follows_taken k f in omega arith

  module _ (F : Form X) (Does : Event → JobOf X → Type 0) (order : Ordered X F) (value : Evaluates X Does F) (once : KeptOnce X Does F)
      (k : ℕ) (v : Event) (cause : (e : Event) (o : Outcome) → Does e (store k o) → e ≡ v) where
    differ : (e : Event) → same_event e v ≡ false → e ≡ v → ⊥
    differ e d s = let both : same_event e v ≡ true = subst (λ w. same_event e w ≡ true) s (same_event-itself e) in cc

    none_elsewhere : (e : Event) → same_event e v ≡ false → (js : Jobs X) → Each (Does e) js → total (keeps X k) js ≡ 0
    none_elsewhere e d [] a = refl
    none_elsewhere e d (publish m ∷ js) a = let r = none_elsewhere e d js a.1 in omega arith
    none_elsewhere e d (job.part g t c ∷ js) a = let r = none_elsewhere e d js a.1 in omega arith
    none_elsewhere e d (store t o ∷ js) a = go (eqb t k) refl (none_elsewhere e d js a.1)
      where
        go : (b : Bool) → eqb t k ≡ b → total (keeps X k) js ≡ 0 → cond b 1 0 + total (keeps X k) js ≡ 0
        go true q r = absurd (differ e d (cause e o (subst (λ u. Does e (store u o)) (eqb-true _ _ q) a.0)))
        go false q r = omega arith

    within : (e : Event) (js : Jobs X) → Each (Does e) js → total (keeps X k) js ≤ 1 → total (keeps X k) js ≤ is_event e v
    within e js a l = go (same_event e v) refl
      where
        go : (b : Bool) → same_event e v ≡ b → total (keeps X k) js ≤ cond b 1 0
        go true q = l
        go false q = let z = none_elsewhere e q js a in omega arith

    -- a message's own store
    own_debt : X.Message → ℕ
    own_debt m = cond (same_event (running k) v) (names X k m) 0

    own_within : (m : X.Message) → IsRun X Does m → names X k m ≤ own_debt m
    unfolding own_debt
    own_within m r = go (same_event (running k) v) refl (eqb (X.no m) k) refl
      where
        go : (b : Bool) → same_event (running k) v ≡ b → (d : Bool) → eqb (X.no m) k ≡ d → cond d 1 0 ≤ cond b (cond d 1 0) 0
        go true e d f = omega arith
        go false e false f = omega arith
        go false e true f = absurd (differ (running k) e
            (subst (λ u. running u ≡ v) (eqb-true _ _ f)
            (cause (running (X.no m)) (X.outcome m) (subst (λ u. Does (running (X.no m)) (store u (X.outcome m))) (eqb-true _ _ f) (value.own m r)))))

    abbrev debt : Doing X → ℕ
    debt (owning m) = own_debt m
    debt (doing js b) = total (keeps X k) js
    debt (reading g c t fs) = is_event (completion g) v
    debt s = 0

    debt_settled : (js : Jobs X) (b : Stored) → debt (settled X js b) ≤ total (keeps X k) js
    debt_settled [] b = omega arith
    debt_settled (store t o ∷ js) First = omega arith
    debt_settled (store t o ∷ js) Again = omega arith
    debt_settled (publish m ∷ js) First = omega arith
    debt_settled (publish m ∷ js) Again = omega arith
    debt_settled (job.part g t c ∷ js) First = omega arith
    debt_settled (job.part g t c ∷ js) Again = omega arith

    -- takes count only where the task is run
    abbrev counted_takes : ℕ → ℕ
    counted_takes n = cond (same_event (running k) v) n 0

    abbrev stores_in : Asked X → Answer X → ℕ
    stores_in a r = total (stores_task k) (backend_call a r)

    abbrev shown_in : Asked X → Answer X → ℕ
    shown_in a r = total (shows X F v) (backend_call a r) + counted_takes (total (takes_task k) (broker_call a r))

    debt_next : (g : ℕ) (c : X.Carried) (fs : List (ℕ × Outcome)) → debt (reads_next X g c fs) ≤ is_event (completion g) v
    debt_next g c fs = reads_cases X (λ s. debt s ≤ is_event (completion g) v) g c fs (λ e. omega arith) (λ t e. omega arith)

    read_step : (g : ℕ) (c : X.Carried) (fs : List (ℕ × Outcome)) → GoodSoFar X (right_goods X F Does) g c fs
        → debt (all_read X g c fs) ≤ is_event (completion g) v
    read_step g c fs state = go (eqb (length fs) (X.size c)) refl
      where
        go : (d : Bool) → eqb (length fs) (X.size c) ≡ d → debt (cond d (settled X (X.completed c fs) Again) (reads_next X g c fs)) ≤ is_event (completion g) v
        go true full =
            let left = debt_settled (X.completed c fs) Again in
            let part = state.1 in
            let whole = all_found X (right_goods X F Does) (right_closed X F Does order value) g c fs state full in
            let small = within (completion g) _ (value.completed g state.0 c fs part.0 part.1 whole state.4)
            (once.at_completion k g state.0 c fs part.0 whole) in
            omega arith
        go false more = let left = debt_next g c fs in omega arith

    taken_step : (x : Option X.Message) → debt (opens X x) ≤ counted_takes (of_opened X k x)
    unfolding own_debt
    taken_step None = omega arith
    taken_step (Some m) = omega arith

    counted_plus : (a b : ℕ) → counted_takes (a + b) ≡ counted_takes a + counted_takes b
    counted_plus a b = go (same_event (running k) v)
      where
        go : (d : Bool) → cond d (a + b) 0 ≡ cond d a 0 + cond d b 0
        go true = refl
        go false = refl

    one_step : (s : Doing X) (r : Answer X) → GoodState X (right_goods X F Does) s → GoodAnswer X (right_goods X F Does) (ask X s) r →
        stores_in (ask X s) r + debt (answered X s r) ≤ debt s + shown_in (ask X s) r
    one_step taking (from_queue None) p g = omega arith
    one_step taking (from_queue (Some e)) p g = let h = taken_step (X.opened e) in omega (arith, counted_plus (of_opened X k (X.opened e)) 0)
    one_step resting (rested true) p g = omega arith
    one_step (owning m) (from_table (table.was First)) p g =
        let own = own_within m p.1 in
        let small = within (end_of_line (X.no m)) _ (value.ended m p.0 p.1) (once.at_end k m p.0) in
        let left = debt_settled (X.ended m (X.outcome m)) First in omega arith
    one_step (owning m) (from_table (table.was Again)) p g = let own = own_within m p.1 in omega arith
    one_step (doing (store t o ∷ js) b) (from_table (table.was a)) p g = let left = debt_settled js (cond (is_due t js) a b) in omega arith
    one_step (doing (publish m ∷ js) b) (from_queue None) p g = let left = debt_settled js b in omega arith
    one_step (doing (publish m ∷ js) b) refused p g = omega arith
    one_step (doing (job.part n t c ∷ js) b) (from_table (table.count i)) p g =
        go (eqb (suc i) (X.size c)) (eqb (suc i) (length (F.members n))) (ap (eqb (suc i)) (order.size n t c p.0.0))
      where
        go : (d f : Bool) → d ≡ f
            → 0 + debt (cond d (reads_next X n c []) acking) ≤ 0 + total (keeps X k) js + (cond f (is_event (completion n) v) 0 + 0 + counted_takes 0)
        go true true e = let left = debt_next n c [] in omega arith
        go true false e = absurd (cc)
        go false f e = omega arith
    one_step (reading n c t fs) (from_table (table.found (Some o))) p g =
        let h = read_step n c _ (more_found X (right_goods X F Does) (right_closed X F Does order value) n c fs t o p.0 p.1 g) in omega arith
    one_step (reading n c t fs) (from_table (table.found None)) p g = omega arith
    one_step acking acked p g = omega arith
    one_step s r p g = omega arith

    core_run : (s : Doing X) (xs : List (Asked X × Answer X)) → GoodState X (right_goods X F Does) s → IsCoreRun X s xs
        → Each (λ x. GoodAnswer X (right_goods X F Does) x.0 x.1) xs →
        total (stores_task k) (backend_calls xs) ≤ debt s + (total (shows X F v) (backend_calls xs) + counted_takes (total (takes_task k) (broker_calls xs)))
    core_run s [] p l g = omega arith
    core_run s (x ∷ xs) p l g =
        let good : GoodAnswer X (right_goods X F Does) (ask X s) x.1 = subst (λ a. GoodAnswer X (right_goods X F Does) a x.1) l.0 g.0 in
        let later = core_run (answered X s x.1) xs (next_good X (right_goods X F Does) (right_closed X F Does order value) s x.1 p good) l.2 g.1 in
        let now : stores_in x.0 x.1 + debt (answered X s x.1) ≤ debt s + shown_in x.0 x.1 =
        subst (λ a. stores_in a x.1 + debt (answered X s x.1) ≤ debt s + shown_in a x.1) (sym l.0) (one_step s x.1 p good) in
        let taken : counted_takes (total (takes_task k) (broker_call x.0 x.1 ++ broker_calls xs)) ≡ counted_takes (total (takes_task k) (broker_call x.0 x.1))
        + counted_takes (total (takes_task k) (broker_calls xs)) =
        ap counted_takes (total-append (takes_task k) (broker_call x.0 x.1) (broker_calls xs)) ∙ counted_plus _ _ in
        omega (
          arith,
          total-append (stores_task k) (backend_call x.0 x.1) (backend_calls xs),
          total-append (shows X F v) (backend_call x.0 x.1) (backend_calls xs),
        )

  module _ (F : Form X) (Does : Event → JobOf X → Type 0) (order : Ordered X F) (value : Evaluates X Does F) (once : Once X Does F)
      (keeping : KeptOnce X Does F) (run : Run X F) where
    -- how often the task's message was delivered again, where that message is its event's
    abbrev again_where : ℕ → Event → ℕ
    again_where k e = cond (same_event (running k) e) (total (agains_task k) (seconds run.broker)) 0

    module _ (k : ℕ) (v : Event) (cause : (e : Event) (o : Outcome) → Does e (store k o) → e ≡ v) where
      abbrev shown_by : ℕ → ℕ
      shown_by p = total (shows X F v) (by p run.backend) + cond (same_event (running k) v) (total (takes_task k) (by p run.broker)) 0

      closing_none : (b : Bool) → total (stores_task k) (cond b run.closing []) ≡ 0
      closing_none true = none run.closing run.closes
        where
          none : (cs : List TableAnswered) → Each IsRead cs → total (stores_task k) cs ≡ 0
          none [] a = refl
          none ((table.read t, table.found o) ∷ cs) a = let r = none cs a.1 in omega arith
          none (c ∷ cs) a = elim (a.0) [ ]
      closing_none false = refl

      one_caller : (p : ℕ) → total (stores_task k) (by p run.backend) ≤ shown_by p
      one_caller p =
          let core = core_run F Does order value keeping k v cause taking (run.core p) tt (run.is_core p)
          (answers_right X F Does order value run p) in
          let opening : List (QueueAnswered E) = cond (eqb p 0) (published_all (map X.sealed run.opening)) [] in
          let mine : total (takes_task k) (broker_calls (run.core p)) ≤ total (takes_task k) (by p run.broker) =
          omega (arith, follows_taken k (run.follows p), total-append (takes_task k) opening (broker_calls (run.core p)), nothing_taken) in
          let takes = counted (same_event (running k) v) _ _ mine in
          let stores : total (stores_task k) (by p run.backend) ≡ total (stores_task k) (backend_calls (run.core p))
          + total (stores_task k) (cond (eqb p 0) run.closing []) =
          ap (total (stores_task k)) (run.keeps p) ∙ total-append (stores_task k) (backend_calls (run.core p)) _ in
          let backend : total (shows X F v) (by p run.backend) ≡ total (shows X F v) (backend_calls (run.core p))
          + total (shows X F v) (cond (eqb p 0) run.closing []) =
          ap (total (shows X F v)) (run.keeps p) ∙ total-append (shows X F v) (backend_calls (run.core p)) _ in
          omega (arith, closing_none (eqb p 0))
        where
          nothing_taken : taken_total k [] ≡ 0
          nothing_taken = refl

          counted : (b : Bool) (i j : ℕ) → i ≤ j → cond b i 0 ≤ cond b j 0
          counted true i j l = l
          counted false i j l = omega arith

      caused_once : total (stores_task k) (seconds run.backend) ≤ 1 + again_where k v
      caused_once =
          let stores = total_by (stores_task k) run.workers run.backend run.backend_callers in
          let shown = total_by (shows X F v) run.workers run.backend run.backend_callers in
          let takes = total_by (takes_task k) run.workers run.broker run.broker_callers in
          let each = sum_to-le run.workers (λ p. total (stores_task k) (by p run.backend)) shown_by one_caller in
          let split = sum_to-both run.workers (λ p. total (shows X F v) (by p run.backend))
          (λ p. cond (same_event (running k) v) (total (takes_task k) (by p run.broker)) 0) in
          let queue = queue_total k [] [] (seconds run.broker) run.queue in
          let published = published_once X F Does order value once run k in
          let once = shows_once X F v (seconds run.backend) run.table in
          let counted = counted_sum (same_event (running k) v) run.workers (λ p. total (takes_task k) (by p run.broker)) in
          let small = run_case v (sum_to run.workers (λ p. total (takes_task k) (by p run.broker))) (total (agains_task k) (seconds run.broker))
          (omega arith) in
          omega arith
        where
          counted_sum : (b : Bool) (n : ℕ) (f : ℕ → ℕ) → sum_to n (λ p. cond b (f p) 0) ≡ cond b (sum_to n f) 0
          counted_sum true n f = refl
          counted_sum false n f = zero_sum n
            where
              zero_sum : (n : ℕ) → sum_to n (λ p. 0) ≡ 0
              zero_sum zero = refl
              zero_sum (suc n) = let r = zero_sum n in omega arith

          run_case : (e : Event) (i j : ℕ) → i ≤ 1 + j → cond (same_event (running k) e) i 0 ≤ is_running e + cond (same_event (running k) e) j 0
          run_case start i j l = omega arith
          run_case (running t) i j l = both (eqb k t)
            where
              both : (b : Bool) → cond b i 0 ≤ 1 + cond b j 0
              both true = l
              both false = omega arith
          run_case (end_of_line t) i j l = omega arith
          run_case (completion g) i j l = omega arith

    -- where an event stores the outcome of task k
    kept_by : (k : ℕ) (o : Outcome) (v : Event) → Does v (store k o) → total (stores_task k) (seconds run.backend) ≤ 1 + again_where k v
    kept_by k o v d = caused_once k v (λ e q does. keeping.event e v k q o does d)

    -- a task is stored, First or Again, no more often than its message was delivered again and once more
    pub kept_few : (k : ℕ) → total (stores_task k) (seconds run.backend) ≤ 1 + total (agains_task k) (seconds run.broker)
    kept_few k = ⊎_elim (λ z. omega arith)
        (λ h. heavy h.0 h.2 (in_each (CallRight X F Does order value run) (seconds run.backend) (calls_right X F Does order value run) h.0 h.1))
        (find_heavy (stores_task k) (seconds run.backend))
      where
        named : (t : ℕ) (b : Bool) → eqb t k ≡ b → (◌≡◌ {A = ℕ} (cond b 1 0) 0 → ⊥) → t ≡ k
        named t true e d = eqb-true _ _ e
        named t false e d = absurd (d refl)

        less : (b : Bool) (n : ℕ) → cond b n 0 ≤ n
        less true n = omega arith
        less false n = omega arith

        heavy : (c : TableAnswered) → (stores_task k c ≡ 0 → ⊥) → CallRight X F Does order value run c
            → total (stores_task k) (seconds run.backend) ≤ 1 + total (agains_task k) (seconds run.broker)
        heavy (table.store t o, table.was b) d g =
            let same : t ≡ k = named t (eqb t k) refl d in
            let few = kept_by k o g.0 (subst (λ u. Does g.0 (store u o)) same g.1) in
            let bound = less (same_event (running k) g.0) (total (agains_task k) (seconds run.broker)) in
            omega arith
        heavy c d r = absurd (d refl)

    -- and once where no message runs it
    skipped_once : (k : ℕ) → (o : Outcome) × IsSkipped X Does k o → total (stores_task k) (seconds run.backend) ≤ 1
    skipped_once k (o, (e, n, d)) = go e n (kept_by k o e d)
      where
        go : (e : Event) → RunsNone e → total (stores_task k) (seconds run.backend) ≤ 1 + again_where k e → total (stores_task k) (seconds run.backend) ≤ 1
        go start n l = omega arith
        go (running t) n l = absurd n
        go (end_of_line t) n l = omega arith
        go (completion g) n l = omega arith

    -- an outcome that an event stores is answered First
    abbrev pub FirstWhereSkipped : TableAnswered → Type 0
    FirstWhereSkipped (table.store t o, table.was b) = IsSkipped X Does t o → b ≡ First
    FirstWhereSkipped c = Unit

    pub all_skipped_first : Each FirstWhereSkipped (seconds run.backend)
    all_skipped_first = go [] [] (seconds run.backend) run.table skipped_once (λ k o e s. absurd (no_entry k o e))
      where
        no_entry : (k : ℕ) (o : Outcome) → look_up k [] ≡ Some o → ⊥
        no_entry k o e = cc

        go : (os : List (ℕ × Outcome)) (ps : List (ℕ × ℕ)) (cs : List TableAnswered) → IsTable os ps cs
            → ((k : ℕ) → (o : Outcome) × IsSkipped X Does k o → total (stores_task k) cs ≤ 1) →
            ((k : ℕ) (o : Outcome) → look_up k os ≡ Some o → (q : Outcome) × IsSkipped X Does k q → total (stores_task k) cs ≡ 0)
            → Each FirstWhereSkipped cs
        go os ps [] l one none = tt
        go os ps ((table.part g m, table.count n) ∷ cs) l one none =
            (tt, go os ((g, m) ∷ ps) cs l.2 (λ k s. let h = one k s in omega arith) (λ k o e s. let h = none k o e s in omega arith))
        go os ps ((table.read t, table.found o) ∷ cs) l one none =
            (tt, go os ps cs l.1 (λ k s. let h = one k s in omega arith) (λ k o e s. let h = none k o e s in omega arith))
        go os ps ((table.store t o, table.was b) ∷ cs) l one none = (
          λ s. is_first (look_up t os) refl l.0 s,
          go (kept_first b t o os) ps cs l.1 (λ k s. let h = one k s in omega arith) (λ k q e s. by_answer b k q e s),
        )
          where
            mine : total (stores_task t) ((table.store t o, table.was b) ∷ cs) ≡ 1 + total (stores_task t) cs
            mine = subst (λ d. cond d 1 0 + total (stores_task t) cs ≡ 1 + total (stores_task t) cs) (sym (eq-eqb t t refl)) refl

            is_first : (x : Option Outcome) → look_up t os ≡ x → FirstWins x b → IsSkipped X Does t o → b ≡ First
            is_first None e w s = w
            is_first (Some q) e w s = let h = none t q e (o, s) in absurd (omega (arith, mine))

            later : (k : ℕ) (q : Outcome) (d : Bool) → eqb t k ≡ d → cond d (Some o) (look_up k os) ≡ Some q → (w : Outcome) × IsSkipped X Does k w
                → total (stores_task k) cs ≡ 0
            later k q true f e s =
                let same : t ≡ k = eqb-true _ _ f in
                let h = one t (subst (λ u. (w : Outcome) × IsSkipped X Does u w) (sym same) s) in
                subst (λ u. total (stores_task u) cs ≡ 0) same (omega (arith, mine))
            later k q false f e s = let h = none k q e s in omega arith

            by_answer : (a : Stored) (k : ℕ) (q : Outcome) → look_up k (kept_first a t o os) ≡ Some q → (w : Outcome) × IsSkipped X Does k w
                → total (stores_task k) cs ≡ 0
            by_answer First k q e s = later k q (eqb t k) refl e s
            by_answer Again k q e s = let h = none k q e s in omega arith
        go os ps (c ∷ cs) l one none = elim l [ ]

    pub both_answers : (k : ℕ) (cs : List TableAnswered) → total (stores_task k) cs ≡ total (firsts_one k) cs + total (agains_one k) cs
    both_answers k [] = refl
    both_answers k ((table.store t o, table.was First) ∷ cs) = let r = both_answers k cs in omega arith
    both_answers k ((table.store t o, table.was Again) ∷ cs) = let r = both_answers k cs in omega arith
    both_answers k (c ∷ cs) = let r = both_answers k cs in omega arith

    -- with no store that was the first none answers Again
    no_again : (k : ℕ) (os : List (ℕ × Outcome)) (ps : List (ℕ × ℕ)) (cs : List TableAnswered) → IsTable os ps cs → look_up k os ≡ None
        → total (firsts_one k) cs ≡ 0 → total (agains_one k) cs ≡ 0
    no_again k os ps [] l e z = refl
    no_again k os ps ((table.part g m, table.count n) ∷ cs) l e z = let r = no_again k os ((g, m) ∷ ps) cs l.2 e (omega (arith, z)) in omega arith
    no_again k os ps ((table.read t, table.found o) ∷ cs) l e z = let r = no_again k os ps cs l.1 e (omega (arith, z)) in omega arith
    no_again k os ps ((table.store t o, table.was First) ∷ cs) l e z = go (eqb t k) refl z (λ a b. no_again k ((t, o) ∷ os) ps cs l.1 a b)
      where
        go : (b : Bool) → eqb t k ≡ b → cond b 1 0 + total (firsts_one k) cs ≡ 0
            → (look_up k ((t, o) ∷ os) ≡ None → total (firsts_one k) cs ≡ 0 → total (agains_one k) cs ≡ 0) → 0 + total (agains_one k) cs ≡ 0
        go true f z k' = absurd (omega (arith, z))
        go false f z k' = let r = k' (ap (λ b. cond b (Some o) (look_up k os)) f ∙ e) (omega (arith, z)) in omega arith
    no_again k os ps ((table.store t o, table.was Again) ∷ cs) l e z = go (eqb t k) refl (no_again k os ps cs l.1 e (omega (arith, z)))
      where
        not_false : Again ≡ First → ⊥
        not_false h = cc

        go : (b : Bool) → eqb t k ≡ b → total (agains_one k) cs ≡ 0 → cond b 1 0 + total (agains_one k) cs ≡ 0
        go true f r = absurd (not_false (subst (λ x. FirstWins x Again) (subst (λ u. look_up u os ≡ None) (sym (eqb-true _ _ f)) e) l.0))
        go false f r = omega arith
    no_again k os ps (c ∷ cs) l e z = elim l [ ]

    -- as many stores answer Again as the task's message was delivered again, at most
    pub agains_few : (k : ℕ) → total (agains_one k) (seconds run.backend) ≤ total (agains_task k) (seconds run.broker)
    agains_few k = go (total (firsts_one k) (seconds run.backend)) refl
      where
        go : (n : ℕ) → total (firsts_one k) (seconds run.backend) ≡ n → total (agains_one k) (seconds run.backend) ≤ total (agains_task k) (seconds run.broker)
        go zero e = let z = no_again k [] [] (seconds run.backend) run.table refl e in omega arith
        go (suc n) e = let few = kept_few k in let both = both_answers k (seconds run.backend) in omega arith
