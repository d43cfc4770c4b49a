-- A run that is under way is closed, or some worker's next call can be answered; so it leads to a closed run.
use Rattle.std.proofs.Common.{◌≡◌, ◌≢◌, ◌⊎◌, ℕ, zero, suc, ◌+◌, ◌≤◌, ◌<◌, true, false, cond, eqb, List, [], ◌∷◌, ◌++◌, length, Option, Some, None, refl, sym, ap, ◌∙◌, subst, inl, inr, ⊎_elim, ne_eqb, append-nil, arith}
use Rattle.std.specs.Prelude.{filter}
use Rattle.std.proofs.lemmas.Bool.{eqb-true, eqb-false, cases_eq, cases_lt}
use Rattle.std.proofs.lemmas.List.{length-append}
use Rattle.std.proofs.lemmas.Option.{slice_get_within, slice_get-get_or}
use Rattle.canvas_task.specs.Apply.{Behaviour}
use Rattle.canvas_task.specs.declared.outcome.Outcome.{Outcome}
use Rattle.canvas_history.specs.Answers.{entries_by}
use Rattle.canvas_history.specs.History.{calls}
use Rattle.canvas_history.proofs.Calls.{legal_push}
use Rattle.canvas_semantics.specs.Line.{Line, members}
use Rattle.canvas_rewrite.specs.FrozenView.{PCarried}
use Rattle.canvas_rewrite.specs.Planned.{IsPlan}
use Rattle.canvas_envelope.specs.Content.{Content}
use Rattle.canvas_envelope.specs.declared.envelope.Envelope.{Envelope}
use Rattle.canvas_effects.specs.Job as job
use Rattle.canvas_history.specs.declared.stored.Stored.{Stored}
use Rattle.canvas_history.specs.declared.stored.Stored.TheVariants.{First, Again}
use Rattle.canvas_history.specs.Table as table
use Rattle.canvas_history.specs.Table.{Results, no_results, reply_of, next_of, first_or, count_of}
use Rattle.canvas_history.specs.Roster.{Roster, roster_of}
use Rattle.canvas_history.specs.Queue as queue
use Rattle.canvas_runs.specs.Calls.{QueueAnswered, makes, FollowsScripts, scripts_all, scripts_publish, scripts_list_take, scripts_core_take, scripts_ack, AskedAndAnswered, broker_call, broker_calls, takes_one}
use Rattle.canvas_runs.specs.Core.{Reply, to_queue, to_table, rest, ack, from_queue, from_table, rested, acked, taking, resting, over, failed, owning, doing, reading, acking, is_due, ask, answered, Doing, Jobs, settled, opens, owned, part_counted, reads_next, IsCoreRun, left_after, Between, ReadsBack, Suits}
use Rattle.canvas_history.specs.Lists.{Each, by, total}
use Rattle.canvas_runs.specs.Logs.{has_found, queue_calls}
use Rattle.canvas_runs.specs.Progress.{delivered_again, most_calls, AllReadBack, left_of, CanGoOn, AtRest, UnderWay, GoesOn, Next, leads_none, leads_on, Ending}
use Rattle.canvas_runs.specs.Protocol.{Protocol}
use Rattle.canvas_runs.specs.Run.{Run, Closed}
use Rattle.canvas_runs.specs.Worker.{IsReadBack, worker, sealed}
use Rattle.canvas_runs.proofs.Objects.Bridges.{callers_below}
use Rattle.canvas_runs.proofs.Objects.CallsOf.{tag}
use Rattle.canvas_runs.proofs.Laws.Facts.{order}
use Rattle.canvas_runs.proofs.Ends.FewCalls.{few_calls}
use Rattle.canvas_runs.proofs.Runs.GoodRuns.{GoodState}
use Rattle.canvas_runs.proofs.Runs.MoreAsks.{reads_cases}
use Rattle.canvas_runs.proofs.Ends.Ongoing.{its_rest, as_held, Further, longer, longer_goes, longer_way, longer_calls, all_calls, one_more, again_same}
use Rattle.canvas_runs.proofs.Ends.PartsDue.{G, Sure, sure_left, good_left, part_may}
use Rattle.canvas_runs.proofs.Lists.Sums.{total-append}
use Rattle.canvas_runs.proofs.Lists.Words.{each_append, each_weaker, cond_cases}

-- ---- lists

none_by : {A : Type 0} (n q : ℕ) (es : List (ℕ × A)) → Each (λ e. e.0 ≤ n) es → n < q → by q es ≡ []
none_by n q [] b h = refl
none_by n q (e ∷ es) b h =
    ap (λ d. cond d (e.1 ∷ by q es) (by q es)) (ne_eqb e.0 q (λ s. let low = b.0 in omega (arith, low, h, s))) ∙ none_by n q es b.1 h

tag_below : {A : Type 0} (n p : ℕ) (cs : List A) → p ≤ n → Each (λ e. e.0 ≤ n) (tag p cs)
tag_below n p [] h = tt
tag_below n p (c ∷ cs) h = (h, tag_below n p cs h)

module _ (Y : Protocol Envelope) where
  -- a worker that has taken nothing is between scripts
  idle_step : (s : Doing Y) (y : Reply Envelope) → Between s → Suits (ask Y s) y → total takes_one (broker_call (ask Y s) y) ≡ 0 → Between (answered Y s y)
  idle_step taking (from_queue None) b u z = tt
  idle_step taking (from_queue (Some e)) b u z = absurd (omega (arith, z))
  idle_step resting (rested true) b u z = tt
  idle_step resting (rested false) b u z = tt
  idle_step (owning m) y b u z = elim b [ ]
  idle_step (doing js d) y b u z = elim b [ ]
  idle_step (reading g c t fs) y b u z = elim b [ ]
  idle_step acking y b u z = elim b [ ]
  idle_step failed y b u z = elim b [ ]
  idle_step s y b u z = elim u [ ]

  idle_left : (s : Doing Y) (xs : List (AskedAndAnswered Envelope)) → Between s → IsCoreRun Y s xs → total takes_one (broker_calls xs) ≡ 0
      → Between (left_after Y s xs)
  idle_left s [] b c z = b
  idle_left s (x ∷ xs) b c z =
      let split = total-append takes_one (broker_call x.0 x.1) (broker_calls xs) in
      let here : total takes_one (broker_call x.0 x.1) ≡ 0 = omega (arith, z, split) in
      let later : total takes_one (broker_calls xs) ≡ 0 = omega (arith, z, split) in
      idle_left (answered Y s x.1) xs
      (idle_step s x.1 b (subst (λ a. Suits a x.1) c.0 c.1.0) (subst (λ a. total takes_one (broker_call a x.1) ≡ 0) c.0 here)) c.2 later

  -- ---- neither over nor failed

  abbrev Goes : Doing Y → Type 0
  Goes over = ⊥
  Goes failed = ⊥
  Goes s = Unit {0}

  goes_on : (s : Doing Y) → Goes s → (s ≢ over) × (s ≢ failed)
  goes_on s g = (λ e. subst Goes e g, λ e. subst Goes e g)

  settled_goes : (js : Jobs Y) (b : Stored) → Goes (settled Y js b)
  settled_goes [] b = tt
  settled_goes (job.store u o ∷ js) First = tt
  settled_goes (job.store u o ∷ js) Again = tt
  settled_goes (job.publish m ∷ js) First = tt
  settled_goes (job.publish m ∷ js) Again = tt
  settled_goes (job.part g u c ∷ js) First = tt
  settled_goes (job.part g u c ∷ js) Again = tt

  opens_goes : (x : Option Y.Message) → Goes (opens Y x)
  opens_goes None = tt
  opens_goes (Some m) = tt

  owned_goes : (m : Y.Message) (a : Stored) → Goes (owned Y m a)
  owned_goes m First = settled_goes (Y.ended m (Y.outcome m)) First
  owned_goes m Again = tt

module _ (behaviour : Behaviour) (l : Line) (plan : IsPlan l) where
  abbrev W : Protocol Envelope
  W = worker behaviour l

  abbrev P : Roster
  P = roster_of l

  next_goes : (g : ℕ) (c : PCarried) (fs : List (ℕ × Outcome)) → length fs < length (members l g) → Goes W (reads_next W g c fs)
  next_goes g c fs less =
      let there = slice_get-get_or (members l g) (length fs) 0 less in
      reads_cases W (Goes W) g c fs (λ e. absurd (let wrong = sym e ∙ there in cc)) (λ t e. tt)

  counted_goes : (g t : ℕ) (c : PCarried) (i : ℕ) → c.size ≡ length (members l g) → Goes W (part_counted W g c i)
  counted_goes g t c i many =
      cond_cases (Goes W) (eqb (suc i) c.size) (reads_next W g c []) acking
      (λ full. let size = eqb-true (suc i) c.size full in next_goes g c [] (omega (arith, many, size))) (λ less. tt)

  found_goes : (g t : ℕ) (c : PCarried) (fs : List (ℕ × Outcome)) (x : Option Outcome) → c.size ≡ length (members l g)
      → length fs < length (members l g) → Goes W (answered W (reading g c t fs) (from_table (table.found x)))
  found_goes g t c fs None many within = tt
  found_goes g t c fs (Some o) many within =
      let more : length (fs ++ (t, o) ∷ []) ≡ suc (length fs) = omega (arith, length-append fs ((t, o) ∷ [])) in
      cond_cases (Goes W) (eqb (length (fs ++ (t, o) ∷ [])) c.size) (settled W (W.completed c (fs ++ (t, o) ∷ [])) Again)
      (reads_next W g c (fs ++ (t, o) ∷ [])) (λ full. settled_goes W (W.completed c (fs ++ (t, o) ∷ [])) Again)
      (λ less. let apart = eqb-false (length (fs ++ (t, o) ∷ [])) c.size less in next_goes g c (fs ++ (t, o) ∷ []) (omega (arith, more, many, within, apart)))

  module _ (back : AllReadBack behaviour l) (r : Run behaviour l) (u : UnderWay behaviour l r) where
    abbrev left : ℕ → Doing W
    left p = left_of behaviour l r p

    abbrev held : Results
    held = table.results P r.table

    queue_as_it_is : (p : ℕ) → queue.IsLegal (r.queue ++ entries_by p [])
    queue_as_it_is p = subst queue.IsLegal (sym (append-nil r.queue)) r.queue_legal

    table_as_it_is : (p : ℕ) → table.IsLegal P (r.table ++ entries_by p [])
    table_as_it_is p = subst (table.IsLegal P) (sym (append-nil r.table)) r.table_legal

    -- ---- a call of the table

    suits_so : (c : table.TableCall) → Suits {E = Envelope} (to_table c) (from_table (reply_of P held c))
    suits_so (table.store t o) = tt
    suits_so (table.part g t) = tt
    suits_so (table.read t) = tt

    table_further : (p : ℕ) → CanGoOn behaviour l r p → (s : Doing W) → left p ≡ s → (c : table.TableCall) → to_table c ≡ ask W s → ReadsBack W s
        → table.May P r.table held p c → Goes W (answered W s (from_table (reply_of P held c))) → Further behaviour l r p
    table_further p g s e c asks reads may goes =
        let ends = goes_on W (left_after W (left p) ((to_table c, from_table (reply_of P held c)) ∷ []))
        (subst (λ s. Goes W (answered W s (from_table (reply_of P held c)))) (sym e) goes) in
        record {
          asks = (to_table c, from_table (reply_of P held c)) ∷ [];
          new = [];
          core = subst (λ s. IsCoreRun W s ((to_table c, from_table (reply_of P held c)) ∷ [])) (sym e) (asks, (suits_so c, reads), tt);
          one_call = omega arith;
          found = refl;
          same = inr refl;
          follows = scripts_all;
          queue = queue_as_it_is p;
          table = legal_push no_results (reply_of P) next_of (table.May P) r.table (calls p c (reply_of P held c)) r.table_legal (g.1, refl, may);
          not_over = ends.0;
          not_failed = ends.1;
        }

    -- ---- a publish, and an acknowledgement

    publish_further : (p : ℕ) → CanGoOn behaviour l r p → (m : Content) (js : Jobs W) (b : Stored) → left p ≡ doing (job.publish m ∷ js) b → IsReadBack m
        → Further behaviour l r p
    publish_further p g m js b e reads =
        let ends = goes_on W (left_after W (left p) ((to_queue (queue.publish (sealed m)), from_queue None) ∷ []))
        (subst (λ s. Goes W (answered W s (from_queue None))) (sym e) (settled_goes W js b)) in
        record {
          asks = (to_queue (queue.publish (sealed m)), from_queue None) ∷ [];
          new = (queue.publish (sealed m), None) ∷ [];
          core = subst (λ s. IsCoreRun W s ((to_queue (queue.publish (sealed m)), from_queue None) ∷ [])) (sym e) (refl, (tt, reads), tt);
          one_call = omega arith;
          found = refl;
          same = inl refl;
          follows = scripts_publish scripts_all;
          queue = legal_push [] queue.answer_of queue.next queue.May r.queue (calls p (queue.publish (sealed m)) None) r.queue_legal (g.0, refl, tt);
          table = table_as_it_is p;
          not_over = ends.0;
          not_failed = ends.1;
        }

    ack_further : (p : ℕ) → left p ≡ acking → Further behaviour l r p
    ack_further p e =
        let ends = goes_on W (left_after W (left p) ((ack, acked) ∷ [])) (subst (λ s. Goes W (answered W s acked)) (sym e) tt) in
        record {
          asks = (ack, acked) ∷ [];
          new = [];
          core = subst (λ s. IsCoreRun W s ((ack, acked) ∷ [])) (sym e) (refl, (tt, tt), tt);
          one_call = omega arith;
          found = refl;
          same = inr refl;
          follows = scripts_ack scripts_all;
          queue = queue_as_it_is p;
          table = table_as_it_is p;
          not_over = ends.0;
          not_failed = ends.1;
        }

    -- ---- a take, of an envelope that the worker holds or of the queue's first

    take_further : (p : ℕ) (s : Doing W) → left p ≡ s → Between s → s ≢ over → (t : Envelope) (new : List (QueueAnswered Envelope)) → filter has_found new ≡ new
        → (new ≡ (queue.take, Some t) ∷ []) ⊎ (new ≡ [])
        → FollowsScripts (its_rest behaviour l r p).opened (its_rest behaviour l r p).held (makes (queue.take, Some t) ∷ []) new
        → queue.IsLegal (r.queue ++ entries_by p new) → Further behaviour l r p
    take_further p taking e b d t new found same follows legal =
        let ends = goes_on W (left_after W (left p) ((to_queue queue.take, from_queue (Some t)) ∷ []))
        (subst (λ s. Goes W (answered W s (from_queue (Some t)))) (sym e) (opens_goes W (W.opened t))) in
        record {
          asks = (to_queue queue.take, from_queue (Some t)) ∷ [];
          new = new;
          core = subst (λ s. IsCoreRun W s ((to_queue queue.take, from_queue (Some t)) ∷ [])) (sym e) (refl, (tt, tt), tt);
          one_call = omega arith;
          found = found;
          same = same;
          follows = follows;
          queue = legal;
          table = table_as_it_is p;
          not_over = ends.0;
          not_failed = ends.1;
        }
    take_further p resting e b d t new found same follows legal =
        let ends = goes_on W (left_after W (left p) ((rest, rested true) ∷ (to_queue queue.take, from_queue (Some t)) ∷ []))
        (subst (λ s. Goes W (left_after W s ((rest, rested true) ∷ (to_queue queue.take, from_queue (Some t)) ∷ []))) (sym e) (opens_goes W (W.opened t))) in
        record {
          asks = (rest, rested true) ∷ (to_queue queue.take, from_queue (Some t)) ∷ [];
          new = new;
          core = subst (λ s. IsCoreRun W s ((rest, rested true) ∷ (to_queue queue.take, from_queue (Some t)) ∷ [])) (sym e)
              (refl, (tt, tt), (refl, (tt, tt), tt));
          one_call = omega arith;
          found = found;
          same = same;
          follows = follows;
          queue = legal;
          table = table_as_it_is p;
          not_over = ends.0;
          not_failed = ends.1;
        }
    take_further p over e b d t new found same follows legal = absurd (d refl)
    take_further p s e b d t new found same follows legal = elim b [ ]

    -- ---- one worker

    abbrev Could : ℕ → Type 0
    Could p = Further behaviour l r p ⊎ (AtRest behaviour l r p × (queue.queue_of r.queue ≡ []))

    between : (p : ℕ) → CanGoOn behaviour l r p → (s : Doing W) → left p ≡ s → Between s → Could p
    between p g s e b = go (its_rest behaviour l r p).held refl (queue.queue_of r.queue) refl
      where
        go : (ts : List Envelope) → (its_rest behaviour l r p).held ≡ ts → (qs : List Envelope) → queue.queue_of r.queue ≡ qs → Could p
        go [] h [] q =
            let many = as_held behaviour l r p in
            let none : length (its_rest behaviour l r p).held ≡ 0 = ap length h in
            inr ((subst (λ z. Between z) (sym e) b, omega (arith, many, none)), q)
        go [] h (t ∷ qs) q =
            inl (take_further p s e b (λ o. g.2 (e ∙ o)) t ((queue.take, Some t) ∷ []) refl (inl refl)
            (subst (λ hs. FollowsScripts (its_rest behaviour l r p).opened hs (makes (queue.take, Some t) ∷ []) ((queue.take, Some t) ∷ [])) (sym h)
            (scripts_list_take (scripts_core_take scripts_all)))
            (legal_push [] queue.answer_of queue.next queue.May r.queue (calls p queue.take (Some t)) r.queue_legal
            (g.0, sym (ap (λ z. queue.answer_of z queue.take) q), tt)))
        go (t ∷ ts) h qs q =
            inl (take_further p s e b (λ o. g.2 (e ∙ o)) t [] refl (inr refl)
            (subst (λ hs. FollowsScripts (its_rest behaviour l r p).opened hs (makes (queue.take, Some t) ∷ []) []) (sym h) (scripts_core_take scripts_all))
            (queue_as_it_is p))

    good_at : (p : ℕ) (s : Doing W) → left p ≡ s → GoodState W (G behaviour l plan) s
    good_at p s e = subst (GoodState W (G behaviour l plan)) e (good_left behaviour l plan r u.none_read p)

    goes_by : (p : ℕ) → CanGoOn behaviour l r p → (s : Doing W) → left p ≡ s → Could p
    goes_by p g taking e = between p g taking e tt
    goes_by p g resting e = between p g resting e tt
    goes_by p g over e = absurd (g.2 e)
    goes_by p g failed e = absurd (g.3 e)
    goes_by p g (owning m) e =
        inl (table_further p g (owning m) e (table.store (W.no m) (W.outcome m)) refl tt tt (owned_goes W m (first_or (held.outcomes (W.no m)))))
    goes_by p g (doing [] b) e = absurd (subst (Sure W) e (sure_left W taking (r.core p) tt))
    goes_by p g (doing (job.store t o ∷ js) b) e =
        inl (
        table_further p g (doing (job.store t o ∷ js) b) e (table.store t o) refl tt tt
        (settled_goes W js (cond (is_due t js) (first_or (held.outcomes t)) b)))
    goes_by p g (doing (job.publish m ∷ js) b) e =
        let good = good_at p (doing (job.publish m ∷ js) b) e in
        inl (publish_further p g m js b e (back m good.0.1))
    goes_by p g (doing (job.part h t c ∷ js) b) e =
        let good = good_at p (doing (job.part h t c ∷ js) b) e in
        inl (
        table_further p g (doing (job.part h t c ∷ js) b) e (table.part h t) refl tt
        (part_may behaviour l plan r u.none_read p h t c js b e g.1)
        (counted_goes h t c (count_of P held h) ((order behaviour l plan).size h t c good.0.0)))
    goes_by p g (reading h c t fs) e =
        let good = good_at p (reading h c t fs) e in
        inl (
        table_further p g (reading h c t fs) e (table.read t) refl tt tt
        (found_goes h t c fs (held.outcomes t) ((order behaviour l plan).size h good.0.0 c good.0.1.0)
        (slice_get_within (members l h) (length fs) t good.1)))
    goes_by p g acking e = inl (ack_further p e)

    worker_goes : (p : ℕ) → CanGoOn behaviour l r p → Could p
    worker_goes p g = goes_by p g (left p) refl

    one_worker : (p : ℕ) → AtRest behaviour l r p ⊎ (CanGoOn behaviour l r p × Further behaviour l r p)
    one_worker p = ⊎_elim (λ g. ⊎_elim (λ f. inr (g, f)) (λ a. inl a.0) (worker_goes p g)) (λ a. inl a) (u.each p)

    -- ---- all workers

    abbrev Some_goes : ℕ → Type 0
    Some_goes n = (p : ℕ) × (p ≤ n) × CanGoOn behaviour l r p × Further behaviour l r p

    search_all : (n : ℕ) → ((q : ℕ) → q ≤ n → AtRest behaviour l r q) ⊎ Some_goes n
    search_all zero =
        ⊎_elim (λ a. inl (λ q b. let zeroth : q ≡ 0 = omega (arith, b) in subst (AtRest behaviour l r) (sym zeroth) a)) (λ c. inr (0, omega arith, c.0, c.1))
        (one_worker 0)
    search_all (suc n) =
        ⊎_elim (λ before. ⊎_elim (λ a. inl (both before a)) (λ c. inr (suc n, omega arith, c.0, c.1)) (one_worker (suc n)))
        (λ c. inr (c.0, let b = c.1 in omega (arith, b), c.2, c.3)) (search_all n)
      where
        both : ((q : ℕ) → q ≤ n → AtRest behaviour l r q) → AtRest behaviour l r (suc n) → (q : ℕ) → q ≤ suc n → AtRest behaviour l r q
        both before a q b = elim (cases_eq q (suc n)) [
          | inl e ↦ subst (AtRest behaviour l r) (sym e) a
          | inr d ↦ before q (omega (arith, b, d))
        ]

    module _ (n : ℕ) (below : Each (λ (e : ℕ × QueueAnswered Envelope). e.0 ≤ n) (queue_calls r.queue)) (at_most : u.one ≤ n) where
      -- a worker of another number has made no call
      absent : (q : ℕ) → n < q → AtRest behaviour l r q
      absent q h =
          let none : total takes_one (by q (queue_calls r.queue)) ≡ 0 = ap (total takes_one) (none_by n q (queue_calls r.queue) below h) in
          let many = as_held behaviour l r q in
          let took : total takes_one (broker_calls (r.core q)) ≡ 0 = omega (arith, none, many) in
          (idle_left W taking (r.core q) tt (r.is_core q) took, omega (arith, none, took))

      at_its_end : queue.queue_of r.queue ≡ [] → ((q : ℕ) → AtRest behaviour l r q) → Closed behaviour l r
      at_its_end e rests = record { all_sent = u.all_sent; drained = e; all_used = λ p. (rests p).1; all_ended = λ p. (rests p).0 }

      step_on : Closed behaviour l r ⊎ Some_goes n
      step_on =
          ⊎_elim (λ f. inr (u.one, at_most, u.goes, f))
          (λ a. ⊎_elim
          (λ these. inl (at_its_end a.1 (λ q. ⊎_elim (λ (h : n < q). absent q h) (λ (h : q ≤ n). these q h) (cases_lt n q))))
          (λ c. inr c) (search_all n)) (worker_goes u.one u.goes)

  next_by : AllReadBack behaviour l → (r : Run behaviour l) (u : UnderWay behaviour l r) (p : ℕ) (g : CanGoOn behaviour l r p) → Further behaviour l r p
      → Next behaviour l r p
  next_by back r u p g f = record {
    run = longer behaviour l r u p g f;
    goes_on = longer_goes behaviour l r u p g f;
    under_way = longer_way behaviour l r u p g f;
  }

  pub none_waits : AllReadBack behaviour l → (r : Run behaviour l) → UnderWay behaviour l r → (p : ℕ) → CanGoOn behaviour l r p
      → Next behaviour l r p ⊎ (AtRest behaviour l r p × (queue.queue_of r.queue ≡ []))
  none_waits back r u p g = ⊎_elim (λ f. inl (next_by back r u p g f)) (λ a. inr a) (worker_goes back r u p g)

  pub never_stuck : AllReadBack behaviour l → (r : Run behaviour l) → UnderWay behaviour l r → Closed behaviour l r ⊎ ((p : ℕ) × Next behaviour l r p)
  never_stuck back r u =
      let n : ℕ = total (λ (e : ℕ × QueueAnswered Envelope). e.0) (queue_calls r.queue) + u.one in
      ⊎_elim (λ c. inl c) (λ f. inr (f.0, next_by back r u f.0 f.2 f.3))
      (step_on back r u n (each_weaker (λ e h. omega (arith, h)) (queue_calls r.queue) (callers_below (queue_calls r.queue))) (omega arith))

  -- ---- to the end

  -- there are no more calls than these
  too_many : (r : Run behaviour l) (p : ℕ) (s : Run behaviour l) → GoesOn behaviour l r p s → (n : ℕ) → p ≤ n
      → most_calls l (delivered_again r.queue) ≤ all_calls behaviour l n r + 0 → ⊥
  too_many r p s g n b enough =
      let few = few_calls behaviour l plan s n in
      let more = one_more behaviour l r p s g n b in
      let again = again_same behaviour l r p s g in
      absurd (omega (arith, few, more, again, enough))

  one_less : (r : Run behaviour l) (p : ℕ) (s : Run behaviour l) → GoesOn behaviour l r p s → (n fuel : ℕ) → p ≤ n
      → most_calls l (delivered_again r.queue) ≤ all_calls behaviour l n r + suc fuel
      → most_calls l (delivered_again s.queue) ≤ all_calls behaviour l n s + fuel
  one_less r p s g n fuel b enough =
      let more = one_more behaviour l r p s g n b in
      let again = again_same behaviour l r p s g in
      omega (arith, more, again, enough)

  one_first_step : (r : Run behaviour l) (p : ℕ) (s : Run behaviour l) → GoesOn behaviour l r p s → Ending behaviour l s → Ending behaviour l r
  one_first_step r p s g e = record { run = e.run; steps = suc e.steps; leads = leads_on g e.leads; closed = e.closed }

  leads_to : AllReadBack behaviour l → (fuel n : ℕ) (r : Run behaviour l) (u : UnderWay behaviour l r)
      → Each (λ (e : ℕ × QueueAnswered Envelope). e.0 ≤ n) (queue_calls r.queue) → u.one ≤ n
      → most_calls l (delivered_again r.queue) ≤ all_calls behaviour l n r + fuel → Ending behaviour l r
  leads_to back zero n r u below at_most enough =
      ⊎_elim (λ c. record { run = r; steps = 0; leads = leads_none; closed = c })
      (λ f. absurd (too_many r f.0 (longer behaviour l r u f.0 f.2 f.3) (longer_goes behaviour l r u f.0 f.2 f.3) n f.1 enough))
      (step_on back r u n below at_most)
  leads_to back (suc fuel) n r u below at_most enough =
      ⊎_elim (λ c. record { run = r; steps = 0; leads = leads_none; closed = c })
      (λ f. one_first_step r f.0 (longer behaviour l r u f.0 f.2 f.3) (longer_goes behaviour l r u f.0 f.2 f.3)
      (leads_to back fuel n (longer behaviour l r u f.0 f.2 f.3) (longer_way behaviour l r u f.0 f.2 f.3)
      (subst (Each (λ (e : ℕ × QueueAnswered Envelope). e.0 ≤ n)) (sym (longer_calls behaviour l r u f.0 f.2 f.3))
      (each_append (λ (e : ℕ × QueueAnswered Envelope). e.0 ≤ n) (queue_calls r.queue) (tag f.0 f.3.new) below (tag_below n f.0 f.3.new f.1)))
      at_most (one_less r f.0 (longer behaviour l r u f.0 f.2 f.3) (longer_goes behaviour l r u f.0 f.2 f.3) n fuel f.1 enough)))
      (step_on back r u n below at_most)

  pub all_end : AllReadBack behaviour l → (r : Run behaviour l) → UnderWay behaviour l r → Ending behaviour l r
  all_end back r u =
      let n : ℕ = total (λ (e : ℕ × QueueAnswered Envelope). e.0) (queue_calls r.queue) + u.one in
      leads_to back (most_calls l (delivered_again r.queue)) n r u
      (each_weaker (λ e h. omega (arith, h)) (queue_calls r.queue) (callers_below (queue_calls r.queue))) (omega arith) (omega arith)
