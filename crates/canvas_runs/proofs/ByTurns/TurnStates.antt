-- What a worker has left to do, after the steps of a run by turns: the parts still to come may be returned, and the members of a header that is read are stored.
use Rattle.std.proofs.Common.{◌≡◌, ◌≢◌, ℕ, suc, ◌+◌, Bool, true, false, cond, eqb, ◌==◌, List, [], ◌∷◌, ◌++◌, length, Option, Some, None, is_some, refl, sym, ap, ◌∙◌, subst, append-nil, inl, ne_eqb, arith}
use Rattle.std.proofs.lemmas.Bool.{eqb-true, eqb-false}
use Rattle.std.proofs.lemmas.Option.{slice_get-get_or}
use Rattle.std.proofs.lemmas.List.{length-append}
use Rattle.std.specs.Prelude.{if◌then◌else◌}
use Rattle.canvas_task.specs.Apply.{Behaviour}
use Rattle.canvas_task.specs.declared.outcome.Outcome.{Outcome}
use Rattle.canvas_history.specs.History.{calls, among, live, AllOthers}
use Rattle.canvas_history.proofs.Histories.{other_of}
use Rattle.canvas_semantics.specs.Line.{Line}
use Rattle.canvas_rewrite.specs.FrozenView.{PCarried}
use Rattle.canvas_rewrite.specs.Planned.{IsPlan}
use Rattle.canvas_rewrite.proofs.Members.{plan_apart}
use Rattle.canvas_envelope.specs.Content.{Content}
use Rattle.canvas_history.specs.Lists.{In, Each, by, seconds, firsts}
use Rattle.canvas_envelope.specs.declared.envelope.Envelope.{Envelope}
use Rattle.canvas_history.specs.declared.stored.Stored.{Stored}
use Rattle.canvas_history.proofs.TableLaws.{all_first, keeps_first, still_free, first_may, still_may}
use Rattle.canvas_history.specs.declared.stored.Stored.TheVariants.{First, Again}
use Rattle.canvas_history.specs.Table as table
use Rattle.canvas_history.specs.Table.{Results, no_results, kept_or, was, count, found, MayReturn}
use Rattle.canvas_history.specs.Roster.{Roster, roster_of}
use Rattle.canvas_history.specs.Queue as queue
use Rattle.canvas_history.specs.Answers.{answered_calls, entries_by}
use Rattle.canvas_effects.specs.Job as job
use Rattle.canvas_runs.specs.Calls.{TableAnswered, backend_call, AskedAndAnswered, of_scripts, scripts_of}
use Rattle.canvas_runs.specs.Core.{Ask, Reply, to_queue, to_table, from_queue, from_table, rested, acked, taking, resting, over, failed, owning, doing, reading, acking, is_due, settled, ask, opens, reads_next, answered, Doing, Jobs}
use Rattle.canvas_runs.specs.Witness.{asks_table}
use Rattle.canvas_runs.specs.Worker.{worker}
use Rattle.canvas_runs.proofs.Objects.Bridges.{stored_stays}
use Rattle.canvas_runs.proofs.Objects.CallsOf.{seconds_in, call_in}
use Rattle.canvas_runs.proofs.Laws.Facts.{X, form, Does, order, value}
use Rattle.canvas_runs.proofs.Laws.FactsOnce.{once, keeping, its_backs}
use Rattle.canvas_runs.proofs.Runs.Meaning.{IsSkipped}
use Rattle.canvas_runs.proofs.Runs.StoredOnce.{FirstWhereSkipped, all_skipped_first}
use Rattle.canvas_runs.proofs.Runs.Finish.{Backed}
use Rattle.canvas_runs.proofs.Laws.FirstLaw.{inner_run}
use Rattle.canvas_runs.proofs.Runs.GoodRuns.{GoodSoFar, GoodState, GoodAnswer, more_found, all_found}
use Rattle.canvas_runs.proofs.Plans.Knowing.{found as among_members}
use Rattle.canvas_runs.proofs.Runs.Right.{right_goods, right_closed, answers_right}
use Rattle.canvas_runs.proofs.Runs.MoreAsks.{reads_cases, by_more, scripts_more}
use Rattle.canvas_runs.proofs.Lists.Words.{in_right, in_each, each_right, each_weaker, each_from_in, cond_cases, length-firsts}
use Rattle.canvas_runs.specs.Turns.{Step, redelivery, results_next, results_after, left, IsWorker, Answers, FirstsRead}
use Rattle.canvas_runs.proofs.ByTurns.TurnLogs.{worker_lives}
use Rattle.canvas_runs.proofs.ByTurns.TurnRuns.{table_delivers, Lawful, run, table_log, table_log_more, table_made, MayCall}
use Rattle.canvas_runs.proofs.ByTurns.Turning.{results_more}
use Rattle.canvas_runs.proofs.Ends.PartsDue.{left_good}

rows_others : (p q : ℕ) (cs : List TableAnswered) → q ≢ p → AllOthers p (entries_by q cs)
rows_others p q [] apart = tt
rows_others p q (c ∷ cs) apart = (other_of q p (ne_eqb q p apart), rows_others p q cs apart)

kept_stays : (s : Results) (a : Ask Envelope) (t : ℕ) (o : Outcome) → s.outcomes t ≡ Some o → (results_next s a).outcomes t ≡ Some o
kept_stays s (to_table (table.store u w)) t o e = go (t == u)
  where
    go : (b : Bool) → (if b then kept_or (s.outcomes t) w else s.outcomes t) ≡ Some o
    go true = ap (λ y. kept_or y w) e
    go false = e
kept_stays s (to_table (table.part g u)) t o e = e
kept_stays s a t o e = e

module _ (behaviour : Behaviour) (l : Line) (plan : IsPlan l) where
  abbrev pub Good : Doing (worker behaviour l) → Type 0
  Good s = GoodState (worker behaviour l) (right_goods (X behaviour l plan) (form behaviour l plan) (Does behaviour l plan)) s

  abbrev pub P : Roster
  P = roster_of l

  pub good_left : (back : FirstsRead l) (n : ℕ) (xs : List Step) (s : Lawful behaviour l n xs) (p : ℕ) → Good (left behaviour l xs p)
  good_left back n xs s p =
      left_good (worker behaviour l) (right_goods (X behaviour l plan) (form behaviour l plan) (Does behaviour l plan))
      (right_closed (X behaviour l plan) (form behaviour l plan) (Does behaviour l plan) (order behaviour l plan) (value behaviour l plan)) taking
      (scripts_of (by p xs)) tt (s.core p)
      (answers_right (X behaviour l plan) (form behaviour l plan) (Does behaviour l plan) (order behaviour l plan) (value behaviour l plan)
      (inner_run behaviour l plan (run behaviour l back n xs s)) p)

  abbrev pub GoodReply : Ask Envelope → Reply Envelope → Type 0
  GoodReply a r = GoodAnswer (worker behaviour l) (right_goods (X behaviour l plan) (form behaviour l plan) (Does behaviour l plan)) a r

  good_answer : (back : FirstsRead l) (n : ℕ) (xs : List Step) (p : ℕ) (a : Ask Envelope) (r : Reply Envelope) → of_scripts a ≡ true
      → Lawful behaviour l n (xs ++ (p, (a, r)) ∷ []) → GoodReply a r
  good_answer back n xs p a r mine s =
      (each_right (λ (x : AskedAndAnswered Envelope). GoodReply x.0 x.1) (scripts_of (by p xs)) ((a, r) ∷ [])
      (subst (Each (λ (x : AskedAndAnswered Envelope). GoodReply x.0 x.1)) (ap scripts_of (by_more p xs (a, r)) ∙ scripts_more (by p xs) a r mine)
      (answers_right (X behaviour l plan) (form behaviour l plan) (Does behaviour l plan) (order behaviour l plan) (value behaviour l plan)
      (inner_run behaviour l plan (run behaviour l back n (xs ++ (p, (a, r)) ∷ []) s)) p))).0

  -- ---- what is known of states

  abbrev pub IsStored : List Step → ℕ → Type 0
  IsStored xs t = (o : Outcome) × ((results_after xs).outcomes t ≡ Some o)

  abbrev pub May : ℕ → List Step → ℕ → ℕ → Type 0
  May n xs p t = MayReturn P (table_log behaviour l n xs) p t

  abbrev pub Ready : ℕ → List Step → ℕ → Doing (worker behaviour l) → Type 0
  Ready n xs p taking = Unit {0}
  Ready n xs p resting = Unit {0}
  Ready n xs p over = Unit {0}
  Ready n xs p failed = ⊥
  Ready n xs p (owning m) = Unit {0}
  Ready n xs p acking = Unit {0}
  Ready n xs p (doing [] b) = ⊥
  Ready n xs p (doing (j ∷ js) b) = (us : List ℕ) × Backed (worker behaviour l) us (j ∷ js) × Each (May n xs p) us
  Ready n xs p (reading g c t fs) = Each (IsStored xs) ((form behaviour l plan).members g) × (eqb (length fs) c.size ≡ false)

  settled_ready : (n : ℕ) (xs : List Step) (p : ℕ) (us : List ℕ) (js : Jobs (worker behaviour l)) (b : Stored) → Backed (worker behaviour l) us js
      → Each (May n xs p) us → Ready n xs p (settled (worker behaviour l) js b)
  settled_ready n xs p us [] b k m = tt
  settled_ready n xs p us (job.store t o ∷ js) First k m = (us, k, m)
  settled_ready n xs p us (job.store t o ∷ js) Again k m = (us, k, m)
  settled_ready n xs p us (job.publish c ∷ js) First k m = (us, k, m)
  settled_ready n xs p us (job.publish c ∷ js) Again k m = (us, k, m)
  settled_ready n xs p us (job.part g t c ∷ js) First k m = (us, k, m)
  settled_ready n xs p us (job.part g t c ∷ js) Again k m = tt

  -- ---- a part that comes next may be returned

  pub part_may : (n : ℕ) (xs : List Step) (p : ℕ) (s : Doing (worker behaviour l)) → table.results P (table_log behaviour l n xs) ≡ results_after xs → Good s
      → Ready n xs p s → MayCall behaviour l (table_log behaviour l n xs) p (ask (worker behaviour l) s)
  part_may n xs p taking is good k = tt
  part_may n xs p resting is good k = tt
  part_may n xs p over is good k = tt
  part_may n xs p failed is good k = tt
  part_may n xs p (owning m) is good k = tt
  part_may n xs p (doing [] b) is good k = tt
  part_may n xs p (doing (job.store t o ∷ js) b) is good k = tt
  part_may n xs p (doing (job.publish m ∷ js) b) is good k = tt
  part_may n xs p (doing (job.part g t c ∷ js) b) is good k =
      let mine = in_each (May n xs p) k.0 k.2 t k.1.0 in
      let formed = good.0.0 in
      (ap is_some formed.2.1.0, among_members t ((form behaviour l plan).members g) ((order behaviour l plan).member g t c formed), mine.own, mine.free)
  part_may n xs p (reading g c t fs) is good k = tt
  part_may n xs p acking is good k = tt

  -- ---- another worker's step changes nothing of it

  pub other_may : (n : ℕ) (xs : List Step) (p q : ℕ) (a : Ask Envelope) (r : Reply Envelope) (t : ℕ) → IsWorker n p → q ≢ p
      → table.IsLegal P (table_log behaviour l n (xs ++ (q, (a, r)) ∷ [])) → May n xs p t → May n (xs ++ (q, (a, r)) ∷ []) p t
  other_may n xs p q a r t w apart legal m =
      let new : table.Log = entries_by q (backend_call a r) in
      let more = table_log_more behaviour l n xs (q, (a, r)) in
      let lawful : table.IsLegal P (table_log behaviour l n xs ++ new) = subst (table.IsLegal P) more legal in
      let alive : among p (live (table_log behaviour l n xs ++ new)) ≡ true =
      subst (λ g. among p (live g) ≡ true) more
      (worker_lives n p (table_log behaviour l n (xs ++ (q, (a, r)) ∷ [])) (table_made behaviour l n (xs ++ (q, (a, r)) ∷ [])) w) in
      subst (λ g. MayReturn P g p t) (sym more) (record {
        own = keeps_first P (table_log behaviour l n xs) new p t lawful m.alive alive m.own;
        free = still_free P (table_log behaviour l n xs) new p t lawful (rows_others p q (backend_call a r) apart) m.alive alive m.own m.free;
        alive = alive;
      })

  pub stored_more : (xs : List Step) (x : Step) (t : ℕ) → IsStored xs t → IsStored (xs ++ x ∷ []) t
  stored_more xs x t k = (k.0, ap (λ s. s.outcomes t) (results_more no_results xs x) ∙ kept_stays (results_after xs) x.1.0 t k.0 k.1)

  pub other_ready : (n : ℕ) (xs : List Step) (p q : ℕ) (a : Ask Envelope) (r : Reply Envelope) → IsWorker n p → q ≢ p
      → table.IsLegal P (table_log behaviour l n (xs ++ (q, (a, r)) ∷ []))
      → (s : Doing (worker behaviour l)) → Ready n xs p s → Ready n (xs ++ (q, (a, r)) ∷ []) p s
  other_ready n xs p q a r w apart legal taking k = tt
  other_ready n xs p q a r w apart legal resting k = tt
  other_ready n xs p q a r w apart legal over k = tt
  other_ready n xs p q a r w apart legal failed k = k
  other_ready n xs p q a r w apart legal (owning m) k = tt
  other_ready n xs p q a r w apart legal acking k = tt
  other_ready n xs p q a r w apart legal (doing [] b) k = k
  other_ready n xs p q a r w apart legal (doing (j ∷ js) b) k = (k.0, k.1, each_weaker (λ t m. other_may n xs p q a r t w apart legal m) k.0 k.2)
  other_ready n xs p q a r w apart legal (reading g c u fs) k =
      (each_weaker (λ t m. stored_more xs (q, (a, r)) t m) ((form behaviour l plan).members g) k.0, k.1)

  -- ---- nor does a call of its own that returns no part

  abbrev NotPart : Ask Envelope → Type 0
  NotPart (to_table (table.part g t)) = ⊥
  NotPart a = Unit {0}

  abbrev OwnMay : table.Log → table.Log → ℕ → ℕ → Type 0
  OwnMay log new p t = table.IsLegal P (log ++ new) → MayReturn P log p t → MayReturn P (log ++ new) p t

  one_own : (log : table.Log) (p t : ℕ) (c : table.TableCall) (r : table.TableReply) → ((g : ℕ) → c ≢ table.part g t)
      → OwnMay log (calls p c r ∷ []) p t
  one_own log p t c r other legal m = still_may P p t c r log (log ++ calls p c r ∷ []) other m ([], refl, tt, legal, λ e. refl)

  own_step : (log : table.Log) (p t : ℕ) (a : Ask Envelope) (r : Reply Envelope) → NotPart a
      → OwnMay log (entries_by p (backend_call a r)) p t
  own_step log p t (to_table (table.store u o)) (from_table r) plain = one_own log p t (table.store u o) r (λ g e. absurd cc)
  own_step log p t (to_table (table.part g u)) r plain = absurd plain
  own_step log p t (to_table (table.read u)) (from_table r) plain = one_own log p t (table.read u) r (λ g e. absurd cc)
  own_step log p t a r plain = λ legal m. subst (λ g. MayReturn P g p t) (sym (append-nil log)) m

  pub own_may : (n : ℕ) (xs : List Step) (p : ℕ) (a : Ask Envelope) (r : Reply Envelope) (t : ℕ) → NotPart a
      → table.IsLegal P (table_log behaviour l n (xs ++ (p, (a, r)) ∷ [])) → May n xs p t → May n (xs ++ (p, (a, r)) ∷ []) p t
  own_may n xs p a r t plain legal m =
      let more = table_log_more behaviour l n xs (p, (a, r)) in
      subst (λ g. MayReturn P g p t) (sym more) (own_step (table_log behaviour l n xs) p t a r plain (subst (table.IsLegal P) more legal) m)

  -- a task that the worker has just stored
  pub stored_may : (n : ℕ) (xs : List Step) (p t : ℕ) (o : Outcome)
      → table.IsLegal P (table_log behaviour l n (xs ++ (p, asks_table (table.store t o) (was First)) ∷ []))
      → May n (xs ++ (p, asks_table (table.store t o) (was First)) ∷ []) p t
  stored_may n xs p t o legal =
      let more = table_log_more behaviour l n xs (p, asks_table (table.store t o) (was First)) in
      let call = calls p (table.store t o) (was First) in
      subst (λ g. MayReturn P g p t) (sym more)
      (first_may P p t o (table_log behaviour l n xs) (table_log behaviour l n xs ++ call ∷ []) (
        [],
        refl,
        tt,
        subst (table.IsLegal P) more legal,
        λ e. refl,
      ))

  -- each store that is an event's answers first
  pub first_answer : (back : FirstsRead l) (n : ℕ) (xs : List Step) (p t : ℕ) (o : Outcome) (b : Stored)
      → IsSkipped (X behaviour l plan) (Does behaviour l plan) t o → Lawful behaviour l n (xs ++ (p, asks_table (table.store t o) (was b)) ∷ []) → b ≡ First
  first_answer back n xs p t o First skipped s = refl
  first_answer back n xs p t o Again skipped s =
      let call = calls p (table.store t o) (was Again) in
      let there : In call (table_log behaviour l n (xs ++ (p, asks_table (table.store t o) (was Again)) ∷ [])) =
      subst (In call) (sym (table_log_more behaviour l n xs (p, asks_table (table.store t o) (was Again)))) (in_right (table_log behaviour l n xs) (call
      ∷ []) call (inl refl)) in
      let its_run = inner_run behaviour l plan (run behaviour l back n (xs ++ (p, asks_table (table.store t o) (was Again)) ∷ []) s) in
      in_each (FirstWhereSkipped (X behaviour l plan) (form behaviour l plan) (Does behaviour l plan) (order behaviour l plan) (value behaviour l plan)
      (once behaviour l plan) (keeping behaviour l plan) its_run)
      (seconds (answered_calls (table_log behaviour l n (xs ++ (p, asks_table (table.store t o) (was Again)) ∷ []))))
      (all_skipped_first (X behaviour l plan) (form behaviour l plan) (Does behaviour l plan) (order behaviour l plan) (value behaviour l plan)
      (once behaviour l plan) (keeping behaviour l plan) its_run)
      (table.store t o, table.was Again)
      (seconds_in (answered_calls (table_log behaviour l n (xs ++ (p, asks_table (table.store t o) (was Again)) ∷ []))) _
      (call_in (table_log behaviour l n (xs ++ (p, asks_table (table.store t o) (was Again)) ∷ [])) p (table.store t o) (was Again) there)) skipped

  -- ---- the header whose last part is returned is stored

  pub was_in : (log : table.Log) (t : ℕ) (o : Outcome) → table.WasFirst log t o → (q : Outcome) × ((table.results P log).outcomes t ≡ Some q)
  was_in log t o f =
      let call = calls f.caller (table.store t o) (was First) in
      let there : In call log = subst (In call) (sym f.is) (in_right f.before (call ∷ f.rest) call (inl refl)) in
      stored_stays l (plan_apart l plan) t o First log no_results
      (seconds_in (answered_calls log) _ (call_in log f.caller (table.store t o) (was First) there))

  header_stored : (n : ℕ) (xs : List Step) (p g t m : ℕ) → table.results P (table_log behaviour l n xs) ≡ results_after xs
      → table.IsLegal P (table_log behaviour l n (xs ++ (p, asks_table (table.part g t) (count m)) ∷ []))
      → suc m ≡ length ((form behaviour l plan).members g)
      → Each (IsStored (xs ++ (p, asks_table (table.part g t) (count m)) ∷ [])) ((form behaviour l plan).members g)
  header_stored n xs p g t m is legal full =
      let x : Step = (p, asks_table (table.part g t) (count m)) in
      each_from_in ((form behaviour l plan).members g) (λ u i.
      let w = all_first P (table_log behaviour l n (xs ++ x ∷ [])) (table_log behaviour l n xs) [] p g t m legal (table_log_more behaviour l n xs x) full u
      (among_members u ((form behaviour l plan).members g) i) in
      let k = was_in (table_log behaviour l n xs) u w.0 w.1 in
      stored_more xs x u (k.0, ap (λ s. s.outcomes u) (sym is) ∙ k.1))

  -- ---- what is left after the worker's own step

  abbrev SoFar : ℕ → PCarried → List (ℕ × Outcome) → Type 0
  SoFar g c fs = GoodSoFar (worker behaviour l) (right_goods (X behaviour l plan) (form behaviour l plan) (Does behaviour l plan)) g c fs

  -- a header of which not all is read has a next member
  next_ready : (n : ℕ) (xs : List Step) (p g : ℕ) (c : PCarried) (fs : List (ℕ × Outcome)) → SoFar g c fs
      → Each (IsStored xs) ((form behaviour l plan).members g) → eqb (length fs) c.size ≡ false → Ready n xs p (reads_next (worker behaviour l) g c fs)
  next_ready n xs p g c fs state all less =
      let members : List ℕ = (form behaviour l plan).members g in
      let many : c.size ≡ length members = (order behaviour l plan).size g state.0 c state.1.0 in
      let split : length members ≡ length (firsts fs) + length state.2 = ap length state.3 ∙ length-append (firsts fs) state.2 in
      let apart : length fs ≢ c.size = eqb-false (length fs) c.size less in
      let there = slice_get-get_or members (length fs) 0 (omega (arith, many, split, apart, length-firsts fs)) in
      reads_cases (worker behaviour l) (Ready n xs p) g c fs (λ e. absurd (let wrong = sym e ∙ there in cc)) (λ t e. (all, less))

  pub own_ready : (back : FirstsRead l) (n : ℕ) (xs : List Step) (p : ℕ) (s : Doing (worker behaviour l)) (r : Reply Envelope)
      → table.results P (table_log behaviour l n xs) ≡ results_after xs → Good s → Ready n xs p s → Answers behaviour l n xs (ask (worker behaviour l) s) r
      → Lawful behaviour l n (xs ++ (p, (ask (worker behaviour l) s, r)) ∷ [])
      → Ready n (xs ++ (p, (ask (worker behaviour l) s, r)) ∷ []) p (answered (worker behaviour l) s r)
  own_ready back n xs p taking (from_queue None) is good k h law = tt
  own_ready back n xs p taking (from_queue (Some e)) is good k h law = go ((worker behaviour l).opened e)
    where
      go : (x : Option Content) → Ready n (xs ++ (p, (to_queue queue.take, from_queue (Some e))) ∷ []) p (opens (worker behaviour l) x)
      go None = tt
      go (Some m) = tt
  own_ready back n xs p resting (rested true) is good k h law = tt
  own_ready back n xs p resting (rested false) is good k h law = tt
  own_ready back n xs p (owning m) (from_table (table.was First)) is good k h law =
      let us : List ℕ = (worker behaviour l).no m ∷ [] in
      settled_ready n (xs ++ (p, asks_table (table.store ((worker behaviour l).no m) ((worker behaviour l).outcome m)) (was First)) ∷ []) p us
      ((worker behaviour l).ended m ((worker behaviour l).outcome m)) First ((its_backs behaviour l plan).ended m ((worker behaviour l).outcome m) good.0)
      (stored_may n xs p ((worker behaviour l).no m) ((worker behaviour l).outcome m) law.table_legal, tt)
  own_ready back n xs p (owning m) (from_table (table.was Again)) is good k h law = tt
  own_ready back n xs p (owning m) (from_table r) is good k h law = absurd cc
  own_ready back n xs p (doing (job.store t o ∷ js) d) (from_table (table.was First)) is good k h law =
      settled_ready n (xs ++ (p, asks_table (table.store t o) (was First)) ∷ []) p (t ∷ k.0) js (cond (is_due t js) First d) k.1 (
        stored_may n xs p t o law.table_legal,
        each_weaker (λ u m. own_may n xs p (to_table (table.store t o)) (from_table (was First)) u tt law.table_legal m) k.0 k.2,
      )
  own_ready back n xs p (doing (job.store t o ∷ js) d) (from_table (table.was Again)) is good k h law =
      absurd (let wrong : Again ≡ First = first_answer back n xs p t o Again good.0 law in cc)
  own_ready back n xs p (doing (job.store t o ∷ js) d) (from_table r) is good k h law = absurd cc
  own_ready back n xs p (doing (job.publish m ∷ js) d) (from_queue None) is good k h law =
      settled_ready n (xs ++ (p, (to_queue (queue.publish ((worker behaviour l).sealed m)), from_queue None)) ∷ []) p k.0 js d k.1
      (each_weaker (λ u f. own_may n xs p (to_queue (queue.publish ((worker behaviour l).sealed m))) (from_queue None) u tt law.table_legal f) k.0 k.2)
  own_ready back n xs p (doing (job.publish m ∷ js) d) (from_queue (Some x)) is good k h law = absurd cc
  own_ready back n xs p (doing (job.part g t c ∷ js) d) (from_table (table.count i)) is good k h law =
      cond_cases (Ready n (xs ++ (p, asks_table (table.part g t) (count i)) ∷ []) p) (eqb (suc i) c.size) (reads_next (worker behaviour l) g c []) acking
      (λ full. let size : suc i ≡ c.size = eqb-true _ _ full in
      next_ready n (xs ++ (p, asks_table (table.part g t) (count i)) ∷ []) p g c [] (t, good.0, (form behaviour l plan).members g, refl, tt)
      (header_stored n xs p g t i is law.table_legal (size ∙ (order behaviour l plan).size g t c good.0.0))
      (subst (λ z. eqb 0 z ≡ false) size (ne_eqb 0 (suc i) (λ e. omega (arith, e)))))
      (λ less. tt)
  own_ready back n xs p (doing (job.part g t c ∷ js) d) (from_table r) is good k h law = absurd cc
  own_ready back n xs p (reading g c t fs) (from_table (table.found (Some o))) is good k h law =
      let x : Step = (p, asks_table (table.read t) (found (Some o))) in
      let state = more_found (worker behaviour l) (right_goods (X behaviour l plan) (form behaviour l plan) (Does behaviour l plan))
      (right_closed (X behaviour l plan) (form behaviour l plan) (Does behaviour l plan) (order behaviour l plan)
      (value behaviour l plan)) g c fs t o good.0 good.1 (good_answer back n xs p (to_table (table.read t)) (from_table (found (Some o))) refl law) in
      cond_cases (Ready n (xs ++ x ∷ []) p) (eqb (length (fs ++ (t, o) ∷ [])) c.size)
      (settled (worker behaviour l) ((worker behaviour l).completed c (fs ++ (t, o) ∷ [])) Again) (reads_next (worker behaviour l) g c (fs ++ (t, o) ∷ []))
      (λ full. settled_ready n (xs ++ x ∷ []) p [] ((worker behaviour l).completed c (fs ++ (t, o) ∷ [])) Again
      ((its_backs behaviour l plan).completed g state.0 c (fs ++ (t, o) ∷ []) state.1.0
      (all_found (worker behaviour l) (right_goods (X behaviour l plan) (form behaviour l plan) (Does behaviour l plan))
      (right_closed (X behaviour l plan) (form behaviour l plan) (Does behaviour l plan) (order behaviour l plan) (value behaviour l plan)) g c
      (fs ++ (t, o) ∷ []) state full)) tt)
      (λ less. next_ready n (xs ++ x ∷ []) p g c (fs ++ (t, o) ∷ []) state
      (each_weaker (λ u m. stored_more xs x u m) ((form behaviour l plan).members g) k.0) less)
  own_ready back n xs p (reading g c t fs) (from_table (table.found None)) is good k h law = tt
  own_ready back n xs p (reading g c t fs) (from_table r) is good k h law = absurd cc
  own_ready back n xs p acking acked is good k h law = tt
  own_ready back n xs p s r is good k h law = elim h [ ]

  -- ---- a redelivery changes nothing of what is known

  pub delivers_ready : (n : ℕ) (xs : List Step) (p q : ℕ) (e : Envelope) → table.IsLegal P (table_log behaviour l n (xs ++ redelivery q e ∷ []))
      → (s : Doing (worker behaviour l)) → Ready n xs p s → Ready n (xs ++ redelivery q e ∷ []) p s
  delivers_ready n xs p q e legal taking k = tt
  delivers_ready n xs p q e legal resting k = tt
  delivers_ready n xs p q e legal over k = tt
  delivers_ready n xs p q e legal failed k = k
  delivers_ready n xs p q e legal (owning m) k = tt
  delivers_ready n xs p q e legal acking k = tt
  delivers_ready n xs p q e legal (doing [] b) k = k
  delivers_ready n xs p q e legal (doing (j ∷ js) b) k =
      (k.0, k.1, each_weaker (λ t m. subst (λ g. MayReturn P g p t) (sym (table_delivers behaviour l n xs q e)) m) k.0 k.2)
  delivers_ready n xs p q e legal (reading g c u fs) k =
      (each_weaker (λ t m. stored_more xs (redelivery q e) t m) ((form behaviour l plan).members g) k.0, k.1)
