-- A run makes few calls: six for a task of its plan, and four for a redelivery.
use Rattle.std.proofs.Common.{◌≡◌, ◌≢◌, ℕ, zero, suc, ◌+◌, ◌*◌, ◌≤◌, ◌<◌, Bool, true, false, cond, eqb, List, [], ◌∷◌, ◌++◌, map, length, slice_get, Option, Some, None, refl, sym, ap, ◌∙◌, subst, ⊎_elim, eq-eqb, arith}
use Rattle.std.specs.Prelude.{◌==◌, count_by}
use Rattle.std.proofs.lemmas.Bool.{eqb-true, eqb-false, cases_lt}
use Rattle.std.proofs.lemmas.List.{length-append}
use Rattle.std.proofs.lemmas.List.Sums.{sum_by-cons}
use Rattle.canvas_task.specs.Apply.{Behaviour}
use Rattle.canvas_task.specs.declared.outcome.Outcome.{Outcome}
use Rattle.canvas_semantics.specs.Line.{Line, count_line, members}
use Rattle.canvas_rewrite.specs.FrozenView.{PCarried}
use Rattle.canvas_rewrite.specs.Planned.{IsPlan, times}
use Rattle.canvas_rewrite.proofs.Members.{plan_apart, member_known}
use Rattle.canvas_envelope.specs.Content.{Content, number_of}
use Rattle.canvas_history.specs.Lists.{In, Each, by, total, seconds}
use Rattle.canvas_envelope.specs.declared.envelope.Envelope.{Envelope}
use Rattle.canvas_effects.specs.Events.{running}
use Rattle.canvas_effects.specs.Job as job
use Rattle.canvas_history.specs.declared.stored.Stored.{Stored}
use Rattle.canvas_history.specs.declared.stored.Stored.TheVariants.{First, Again}
use Rattle.canvas_history.specs.Table as table
use Rattle.canvas_history.proofs.TableLaws.{member_test}
use Rattle.canvas_history.specs.Queue as queue
use Rattle.canvas_history.specs.Answers.{answered_calls}
use Rattle.canvas_runs.specs.Book.{book_of}
use Rattle.canvas_runs.specs.Calls.{QueueAnswered, TableAnswered, AskedAndAnswered, broker_call, backend_call, core_call, broker_calls, backend_calls, core_calls, takes_one}
use Rattle.canvas_runs.specs.Causes.{completes_one}
use Rattle.canvas_runs.specs.Core.{Ask, Reply, to_table, from_queue, from_table, refused, rested, acked, taking, resting, owning, doing, reading, acking, ask, answered, Doing, Jobs, is_due, settled, opens, reads_next, IsCoreRun, is_inside, Suits}
use Rattle.canvas_runs.specs.Law.{of_task, publishes_one, returns_one}
use Rattle.canvas_runs.specs.Logs.{queue_calls}
use Rattle.canvas_runs.specs.Progress.{calls_made, of_workers, redelivers_one, delivered_again, most_calls}
use Rattle.canvas_runs.specs.Protocol.{Protocol}
use Rattle.canvas_runs.specs.Run.{Run, IsRead, published_all}
use Rattle.canvas_runs.specs.Tally.{publishing, returning}
use Rattle.canvas_runs.specs.Worker.{worker, opened, sealed}
use Rattle.canvas_runs.proofs.Objects.Accords.{FollowsCore, follows_all, follows_publish, follows_list_take, follows_core_take, follows_again}
use Rattle.canvas_runs.proofs.Laws.Causes.{completed_once}
use Rattle.canvas_runs.proofs.Laws.Facts.{X, form, Does, order, value}
use Rattle.canvas_runs.proofs.Laws.FactsOnce.{once, keeping}
use Rattle.canvas_runs.proofs.Laws.FirstLaw.{first_part, inner_run, callers, stored_right, has_state}
use Rattle.canvas_runs.proofs.Runs.GoodRuns.{Goods, Closed, GoodAsk, GoodAnswer, GoodState, goods_from_careful, keeps, next_good}
use Rattle.canvas_runs.proofs.Objects.Histories.{GoodPublish, each_seconds, each_from_by}
use Rattle.canvas_runs.proofs.Plans.Knowing.{found as among_members}
use Rattle.canvas_runs.proofs.Runs.Meaning.{IsRun}
use Rattle.canvas_runs.proofs.Runs.MoreAsks.{reads_cases}
use Rattle.canvas_runs.proofs.Runs.OnceEach.{of_opened}
use Rattle.canvas_runs.proofs.Objects.Replay.{IsQueue}
use Rattle.canvas_runs.proofs.Runs.Right.{right_goods, right_closed, answers_right, publishes_right, IsRunSealed}
use Rattle.canvas_runs.proofs.Runs.StoredOnce.{stores_task, kept_few, agains_task}
use Rattle.canvas_runs.proofs.Lists.Sums.{total-append, total-le, sum_to, sum_to-le, sum_to-both, total_by, find_heavy, at_zero, sum_to-zero}
use Rattle.canvas_runs.proofs.Runs.Tables.{part_once}
use Rattle.canvas_runs.proofs.Ends.TaskSums.{up, up-within, zeros, picked, within, spread, times_in, all_picked, state_task}
use Rattle.canvas_runs.proofs.Lists.Words.{each_append, each_weaker, each_from_in, in_each, cond_cases}

-- ---- sums

pub same_sum : (n : ℕ) (f : ℕ → ℕ) → of_workers n f ≡ sum_to n f
same_sum zero f = refl
same_sum (suc n) f = ap (λ k. k + f (suc n)) (same_sum n f)

more_sum : (n k : ℕ) (f : ℕ → ℕ) → sum_to n f ≤ sum_to (k + n) f
more_sum n zero f = subst (λ m. sum_to n f ≤ sum_to m f) (zeroth n) (omega arith)
  where
    zeroth : (n : ℕ) → n ≡ 0 + n
    zeroth n = omega arith
more_sum n (suc k) f =
    let r = more_sum n k f in
    subst (λ m. sum_to n f ≤ sum_to m f) (next n k) (omega (arith, r))
  where
    next : (n k : ℕ) → suc (k + n) ≡ suc k + n
    next n k = omega arith

total-le-each : {A : Type 0} (w v : A → ℕ) (xs : List A) → Each (λ x. w x ≤ v x) xs → total w xs ≤ total v xs
total-le-each w v [] e = omega arith
total-le-each w v (x ∷ xs) e = let r = total-le-each w v xs e.1 in omega (arith, r, e.0)

-- ---- calls

abbrev keeping_one : TableAnswered → ℕ
keeping_one (table.store t o, table.was b) = 1
keeping_one c = 0

abbrev reading_one : TableAnswered → ℕ
reading_one (table.read t, table.found x) = 1
reading_one c = 0

abbrev part_by : ℕ → TableAnswered → ℕ
part_by k (table.part g t, table.count n) = cond (eqb t k) 1 0
part_by k c = 0

-- what is taken was published or delivered again
takes_few : (ts q : List Envelope) (cs : List (QueueAnswered Envelope)) → IsQueue ts q cs
    → total takes_one cs ≤ length q + total publishing cs + total redelivers_one cs
takes_few ts q [] k = omega arith
takes_few ts q ((queue.publish e, y) ∷ cs) k = let r = takes_few ts (q ++ e ∷ []) cs k in omega (arith, r, length-append q (e ∷ []))
takes_few ts q ((queue.redeliver e, y) ∷ cs) k = let r = takes_few ts (q ++ e ∷ []) cs k.1 in omega (arith, r, length-append q (e ∷ []))
takes_few ts q ((queue.take, Some e) ∷ cs) (rest, same, k) = let r = takes_few (e ∷ ts) rest cs k in let many : length q ≡ suc (length rest) =
    ap length same in
    omega (arith, r, many)
takes_few ts q (c ∷ cs) k = elim k [ ]

-- a list and the core run that it follows have the same publishes, and the list has the core run's takes
follows_publishing : {ts : List Envelope} {cs ls : List (QueueAnswered Envelope)} → FollowsCore ts cs ls → total publishing ls ≡ total publishing cs
follows_publishing follows_all = refl
follows_publishing (follows_publish f) = let r = follows_publishing f in omega (arith, r)
follows_publishing (follows_list_take f) = let r = follows_publishing f in omega (arith, r)
follows_publishing (follows_core_take f) = let r = follows_publishing f in omega (arith, r)
follows_publishing (follows_again f) = let r = follows_publishing f in omega (arith, r)

follows_taking : {ts : List Envelope} {cs ls : List (QueueAnswered Envelope)} → FollowsCore ts cs ls
    → total takes_one cs ≤ length ts + total takes_one ls
follows_taking follows_all = omega arith
follows_taking (follows_publish f) = let r = follows_taking f in omega (arith, r)
follows_taking (follows_list_take {ts = ts} {t = t} f) = let r = follows_taking f in omega (arith, r, length-append ts (t ∷ []))
follows_taking (follows_core_take f) = let r = follows_taking f in omega (arith, r)
follows_taking (follows_again f) = let r = follows_taking f in omega (arith, r)

published_length : (ms : List Content) → total publishing (published_all (map sealed ms)) ≡ length ms
published_length [] = refl
published_length (m ∷ ms) = let r = published_length ms in omega (arith, r)

-- ---- a core run's calls

module _ (Y : Protocol Envelope) where
  abbrev open_one : Bool → ℕ
  open_one true = 1
  open_one false = 0

  open_few : (b : Bool) → open_one b ≤ 1
  open_few true = omega arith
  open_few false = omega arith

  -- an acknowledgement closes a script that a take opened
  queue_step : (s : Doing Y) (r : Reply Envelope) → Suits (ask Y s) r
      → length (core_call (ask Y s) r) + open_one (is_inside (answered Y s r))
      ≤ open_one (is_inside s) + total publishing (broker_call (ask Y s) r) + 2 * total takes_one (broker_call (ask Y s) r)
  queue_step taking (from_queue None) u = omega arith
  queue_step taking (from_queue (Some e)) u = let h = open_few (is_inside (opens Y (Y.opened e))) in omega (arith, h)
  queue_step resting (rested true) u = omega arith
  queue_step resting (rested false) u = omega arith
  queue_step (owning m) (from_table (table.was b)) u =
      let h = open_few (is_inside (answered Y (owning m) (from_table (table.was b)))) in omega (arith, h)
  queue_step (doing (job.store v o ∷ js) d) (from_table (table.was b)) u =
      let h = open_few (is_inside (answered Y (doing (job.store v o ∷ js) d) (from_table (table.was b)))) in omega (arith, h)
  queue_step (doing (job.publish m ∷ js) d) (from_queue None) u =
      let h = open_few (is_inside (answered Y (doing (job.publish m ∷ js) d) (from_queue None))) in omega (arith, h)
  queue_step (doing (job.publish m ∷ js) d) refused u = omega arith
  queue_step (doing (job.part g v c ∷ js) d) (from_table (table.count i)) u =
      let h = open_few (is_inside (answered Y (doing (job.part g v c ∷ js) d) (from_table (table.count i)))) in omega (arith, h)
  queue_step (reading g c v fs) (from_table (table.found x)) u =
      let h = open_few (is_inside (answered Y (reading g c v fs) (from_table (table.found x)))) in omega (arith, h)
  queue_step acking acked u = omega arith
  queue_step s r u = elim u [ ]

  queue_run : (s : Doing Y) (ys : List (AskedAndAnswered Envelope)) → IsCoreRun Y s ys
      → length (core_calls ys) ≤ open_one (is_inside s) + total publishing (broker_calls ys) + 2 * total takes_one (broker_calls ys)
  queue_run s [] c = omega arith
  queue_run s (y ∷ ys) c =
      let now : length (core_call y.0 y.1) + open_one (is_inside (answered Y s y.1))
      ≤ open_one (is_inside s) + total publishing (broker_call y.0 y.1) + 2 * total takes_one (broker_call y.0 y.1) =
      subst (λ a. length (core_call a y.1) + open_one (is_inside (answered Y s y.1))
      ≤ open_one (is_inside s) + total publishing (broker_call a y.1) + 2 * total takes_one (broker_call a y.1)) (sym c.0)
      (queue_step s y.1 (subst (λ a. Suits a y.1) c.0 c.1.0)) in
      let later = queue_run (answered Y s y.1) ys c.2 in
      omega (
        arith,
        now,
        later,
        length-append (core_call y.0 y.1) (core_calls ys),
        total-append publishing (broker_call y.0 y.1) (broker_calls ys),
        total-append takes_one (broker_call y.0 y.1) (broker_calls ys),
      )

  table_step : (a : Ask Envelope) (r : Reply Envelope) → Suits a r
      → length (backend_call a r) ≤ total keeping_one (backend_call a r) + total returning (backend_call a r) + total reading_one (backend_call a r)
  table_step (to_table (table.store t o)) (from_table (table.was b)) u = omega arith
  table_step (to_table (table.part g t)) (from_table (table.count n)) u = omega arith
  table_step (to_table (table.read t)) (from_table (table.found x)) u = omega arith
  table_step (to_table c) (from_table r) u = elim u [ ]
  table_step a r u = omega arith

  table_run : (s : Doing Y) (ys : List (AskedAndAnswered Envelope)) → IsCoreRun Y s ys
      → length (backend_calls ys) ≤ total keeping_one (backend_calls ys) + total returning (backend_calls ys) + total reading_one (backend_calls ys)
  table_run s [] c = omega arith
  table_run s (y ∷ ys) c =
      let now = table_step y.0 y.1 c.1.0 in
      let later = table_run (answered Y s y.1) ys c.2 in
      omega (
        arith,
        now,
        later,
        length-append (backend_call y.0 y.1) (backend_calls ys),
        total-append keeping_one (backend_call y.0 y.1) (backend_calls ys),
        total-append returning (backend_call y.0 y.1) (backend_calls ys),
        total-append reading_one (backend_call y.0 y.1) (backend_calls ys),
      )

-- ---- how many elements are still to come from a place on

abbrev still : List ℕ → ℕ → ℕ
still [] i = 0
still (m ∷ ms) zero = suc (length ms)
still (m ∷ ms) (suc i) = still ms i

still_first : (ms : List ℕ) → still ms 0 ≡ length ms
still_first [] = refl
still_first (m ∷ ms) = refl

still_next : (ms : List ℕ) (i t : ℕ) → slice_get ms i ≡ Some t → still ms i ≡ suc (still ms (suc i))
still_next [] i t e = absurd (cc)
still_next (m ∷ ms) zero t e = ap suc (sym (still_first ms))
still_next (m ∷ ms) (suc i) t e = still_next ms i t e

times_count : (k : ℕ) (ms : List ℕ) → times_in k ms ≡ count_by (λ x. x == k) ms
times_count k [] = refl
times_count k (m ∷ ms) =
    let more : count_by (λ x. x == k) (m ∷ ms) ≡ cond (eqb m k) 1 0 + count_by (λ x. x == k) ms = sum_by-cons (λ x. cond (x == k) 1 0) m ms in
    let r = times_count k ms in omega (arith, more, r)

module _ (behaviour : Behaviour) (l : Line) (plan : IsPlan l) where
  abbrev W : Protocol Envelope
  W = worker behaviour l

  abbrev G : Goods W
  G = right_goods (X behaviour l plan) (form behaviour l plan) (Does behaviour l plan)

  abbrev T : ℕ
  T = count_line l

  abbrev its_closed : Closed W G
  its_closed = right_closed (X behaviour l plan) (form behaviour l plan) (Does behaviour l plan) (order behaviour l plan) (value behaviour l plan)

  -- ---- members

  some_times : (g u : ℕ) → In u (members l g) → 0 < times l u g
  some_times g u i = let some = (member_test u (members l g)).0 (among_members u (members l g) i) in omega (arith, some)

  member_task : (g u : ℕ) → In u (members l g) → (1 ≤ u) × (u ≤ T)
  member_task g u i = member_known l plan g u (some_times g u i)

  -- ---- reads: those of the header that is read are still to come

  abbrev due : Doing W → ℕ
  due (reading g c t fs) = still (members l g) (length fs)
  due s = 0

  -- the members that a completing part has read
  abbrev fills : TableAnswered → ℕ
  fills (table.part g t, table.count n) = cond (eqb (suc n) (length (members l g))) (length (members l g)) 0
  fills c = 0

  due_settled : (js : Jobs W) (b : Stored) → due (settled W js b) ≡ 0
  due_settled [] b = refl
  due_settled (job.store u o ∷ js) First = refl
  due_settled (job.store u o ∷ js) Again = refl
  due_settled (job.publish m ∷ js) First = refl
  due_settled (job.publish m ∷ js) Again = refl
  due_settled (job.part g u c ∷ js) First = refl
  due_settled (job.part g u c ∷ js) Again = refl

  due_next : (g : ℕ) (c : PCarried) (fs : List (ℕ × Outcome)) → due (reads_next W g c fs) ≤ still (members l g) (length fs)
  due_next g c fs = reads_cases W (λ s. due s ≤ still (members l g) (length fs)) g c fs (λ e. omega arith) (λ t e. omega arith)

  abbrev Reads : Doing W → Reply Envelope → Type 0
  Reads s r = total reading_one (backend_call (ask W s) r) + due (answered W s r) ≤ due s + total fills (backend_call (ask W s) r)

  reads_step : (s : Doing W) (r : Reply Envelope) → GoodState W G s → Reads s r
  reads_step taking (from_queue None) p = omega arith
  reads_step taking (from_queue (Some e)) p = go (W.opened e)
    where
      go : (x : Option Content) → 0 + due (opens W x) ≤ 0 + 0
      go None = omega arith
      go (Some m) = omega arith
  reads_step resting (rested true) p = omega arith
  reads_step (owning m) (from_table (table.was First)) p = let z = due_settled (W.ended m (W.outcome m)) First in omega (arith, z)
  reads_step (owning m) (from_table (table.was Again)) p = omega arith
  reads_step (doing (job.store u o ∷ js) b) (from_table (table.was a)) p = let z = due_settled js (cond (is_due u js) a b) in omega (arith, z)
  reads_step (doing (job.publish m ∷ js) b) (from_queue None) p = let z = due_settled js b in omega (arith, z)
  reads_step (doing (job.part g u c ∷ js) b) (from_table (table.count i)) p =
      go (eqb (suc i) c.size) (eqb (suc i) (length (members l g))) (ap (eqb (suc i)) ((order behaviour l plan).size g u c p.0.0))
    where
      go : (d f : Bool) → d ≡ f → 0 + due (cond d (reads_next W g c []) acking) ≤ 0 + (cond f (length (members l g)) 0 + 0)
      go true true e = let next = due_next g c [] in let whole = still_first (members l g) in omega (arith, next, whole)
      go true false e = absurd (cc)
      go false f e = omega arith
  reads_step (reading g c t fs) (from_table (table.found (Some o))) p =
      let one = still_next (members l g) (length fs) t p.1 in
      let more : length (fs ++ (t, o) ∷ []) ≡ suc (length fs) = omega (arith, length-append fs ((t, o) ∷ [])) in
      let same : still (members l g) (length (fs ++ (t, o) ∷ [])) ≡ still (members l g) (suc (length fs)) = ap (still (members l g)) more in
      cond_cases (λ s. (1 + 0) + due s ≤ still (members l g) (length fs) + (0 + 0)) (eqb (length (fs ++ (t, o) ∷ [])) c.size)
      (settled W (W.completed c (fs ++ (t, o) ∷ [])) Again) (reads_next W g c (fs ++ (t, o) ∷ []))
      (λ full. let z = due_settled (W.completed c (fs ++ (t, o) ∷ [])) Again in omega (arith, z, one))
      (λ less. let next = due_next g c (fs ++ (t, o) ∷ []) in omega (arith, next, same, one))
  reads_step (reading g c t fs) (from_table (table.found None)) p = let one = still_next (members l g) (length fs) t p.1 in omega (arith, one)
  reads_step acking acked p = omega arith
  reads_step s r p = omega arith

  reads_run : (s : Doing W) (ys : List (AskedAndAnswered Envelope)) → GoodState W G s → IsCoreRun W s ys
      → Each (λ (y : AskedAndAnswered Envelope). GoodAnswer W G y.0 y.1) ys → total reading_one (backend_calls ys) ≤ due s + total fills (backend_calls ys)
  reads_run s [] p c a = omega arith
  reads_run s (y ∷ ys) p c a =
      let good = next_good W G its_closed s y.1 p (subst (λ z. GoodAnswer W G z y.1) c.0 a.0) in
      let later = reads_run (answered W s y.1) ys good c.2 a.1 in
      let now : total reading_one (backend_call y.0 y.1) + due (answered W s y.1) ≤ due s + total fills (backend_call y.0 y.1) =
      subst (λ z. total reading_one (backend_call z y.1) + due (answered W s y.1) ≤ due s + total fills (backend_call z y.1)) (sym c.0)
      (reads_step s y.1 p) in
      omega (
        arith,
        now,
        later,
        total-append reading_one (backend_call y.0 y.1) (backend_calls ys),
        total-append fills (backend_call y.0 y.1) (backend_calls ys),
      )

  -- how often a completing part has task k read
  abbrev fills_of : ℕ → TableAnswered → ℕ
  fills_of k (table.part g t, table.count n) = cond (eqb (suc n) (length (members l g))) (times_in k (members l g)) 0
  fills_of k c = 0

  fills_picked : (c : TableAnswered) → fills c ≤ up T (λ k. fills_of k c)
  fills_picked (table.part g t, table.count n) = go (eqb (suc n) (length (members l g)))
    where
      go : (b : Bool) → cond b (length (members l g)) 0 ≤ up T (λ k. cond b (times_in k (members l g)) 0)
      go true = all_picked T (members l g) (each_from_in (members l g) (λ u i. member_task g u i))
      go false = let z = zeros T in omega (arith, z)
  fills_picked c = let z = zeros T in omega (arith, z)

  fills_less : (k g : ℕ) → 0 < times l k g → (c : TableAnswered) → fills_of k c ≤ completes_one l g c
  fills_less k g some (table.part h u, table.count j) = go (eqb h g) refl
    where
      few : (b : Bool) → cond b (times_in k (members l g)) 0 ≤ cond b 1 0
      few true = let one = (plan_apart l plan g k some).0 in omega (arith, one, times_count k (members l g))
      few false = omega arith

      none : (b : Bool) → times_in k (members l h) ≡ 0 → cond b (times_in k (members l h)) 0 ≤ 0
      none true z = omega (arith, z)
      none false z = omega arith

      go : (b : Bool) → eqb h g ≡ b
          → cond (eqb (suc j) (length (members l h))) (times_in k (members l h)) 0 ≤ cond b (cond (eqb (suc j) (length (members l g))) 1 0) 0
      go true e =
          subst (λ f. cond (eqb (suc j) (length (members l f))) (times_in k (members l f)) 0 ≤ cond (eqb (suc j) (length (members l g))) 1 0)
          (sym (eqb-true h g e)) (few (eqb (suc j) (length (members l g))))
      go false e = none (eqb (suc j) (length (members l h)))
          (⊎_elim (λ (there : 0 < times l k h). absurd (eqb-false h g e ((plan_apart l plan g k some).1 h there)))
          (λ (zeroth : times l k h ≤ 0). omega (arith, zeroth, times_count k (members l h))) (cases_lt 0 (times l k h)))
  fills_less k g some c = omega arith

  module _ (r : Run behaviour l) where
    abbrev Q : List (QueueAnswered Envelope)
    Q = seconds (queue_calls r.queue)

    abbrev B : List TableAnswered
    B = seconds (answered_calls r.table)

    fills_once : (k : ℕ) → total (fills_of k) B ≤ 1 + 0
    fills_once k = ⊎_elim (λ z. omega (arith, z)) (λ h. heavy h.0 h.2) (find_heavy (fills_of k) B)
      where
        some : (g : ℕ) (b : Bool) → ◌≢◌ {A = ℕ} (cond b (times_in k (members l g)) 0) 0 → 0 < times l k g
        some g true d = omega (arith, d, times_count k (members l g))
        some g false d = absurd (d refl)

        heavy : (c : TableAnswered) → fills_of k c ≢ 0 → total (fills_of k) B ≤ 1 + 0
        heavy (table.part g t, table.count n) d =
            let there : 0 < times l k g = some g (eqb (suc n) (length (members l g))) d in
            let a = total-le (fills_of k) (completes_one l g) (fills_less k g there) B in
            let b = completed_once behaviour l plan r g in
            omega (arith, a, b)
        heavy c d = absurd (d refl)

    fills_few : total fills B ≤ T
    fills_few =
        let a = spread fills fills_of (λ k. 0) T B (each_from_in B (λ c i. fills_picked c)) fills_once in
        let z = zeros T in omega (arith, a, z)

    -- ---- redeliveries

    pub again_sum : (m : ℕ) → sum_to m (λ k. total (agains_task (X behaviour l plan) k) Q) ≤ total redelivers_one Q
    again_sum m = go Q
      where
        opened_few : (x : Option Content) → sum_to m (λ k. of_opened (X behaviour l plan) k x) ≤ 1
        opened_few None = let z = sum_to-zero m in omega (arith, z)
        opened_few (Some c) = within m (number_of c.own)

        one : (c : QueueAnswered Envelope) → sum_to m (λ k. agains_task (X behaviour l plan) k c) ≤ redelivers_one c
        one (queue.redeliver e, y) = opened_few (opened (book_of l) e)
        one c = let z = sum_to-zero m in omega (arith, z)

        go : (cs : List (QueueAnswered Envelope)) → sum_to m (λ k. total (agains_task (X behaviour l plan) k) cs) ≤ total redelivers_one cs
        go [] = let z = sum_to-zero m in omega (arith, z)
        go (c ∷ cs) =
            let h = one c in
            let s = go cs in
            let both = sum_to-both m (λ k. agains_task (X behaviour l plan) k c) (λ k. total (agains_task (X behaviour l plan) k) cs) in
            omega (arith, h, s, both)

    -- ---- publishes

    run_task : (c : Content) → IsRun (X behaviour l plan) (Does behaviour l plan) c → (1 ≤ number_of c.own) × (number_of c.own ≤ T)
    run_task c runs = state_task behaviour l plan (number_of c.own) (W.outcome c)
        (has_state behaviour l plan (number_of c.own) (W.outcome c) (running (number_of c.own), (value behaviour l plan).own c runs))

    abbrev RunPublish : QueueAnswered Envelope → Type 0
    RunPublish = GoodPublish (IsRunSealed (X behaviour l plan) (form behaviour l plan) (Does behaviour l plan) (order behaviour l plan) (value behaviour l plan)
        (inner_run behaviour l plan r))

    publish_picked : (c : QueueAnswered Envelope) → RunPublish c → publishing c ≤ up T (λ k. publishes_one l k c)
    publish_picked (queue.publish e, y) (m, same, back, formed, runs) =
        let opens_so : opened (book_of l) e ≡ Some m = ap (opened (book_of l)) same ∙ (order behaviour l plan).opened m formed back in
        let k = run_task m runs in
        subst (λ o. 1 ≤ up T (λ k. of_task l k o)) (sym opens_so) (picked T (number_of m.own) k.0 k.1)
    publish_picked c g = let z = zeros T in omega (arith, z)

    publishes_few : total publishing Q ≤ T
    publishes_few =
        let a = spread publishing (publishes_one l) (λ k. 0) T Q
        (each_weaker publish_picked Q
        (each_seconds RunPublish (queue_calls r.queue)
        (publishes_right (X behaviour l plan) (form behaviour l plan) (Does behaviour l plan) (order behaviour l plan) (value behaviour l plan)
        (inner_run behaviour l plan r))))
        (λ k. let one = (first_part behaviour l plan r).published_once k in omega (arith, one)) in
        let z = zeros T in omega (arith, a, z)

    -- ---- stores

    stores_few : total keeping_one B ≤ T + total redelivers_one Q
    stores_few =
        let a = spread keeping_one (stores_task (X behaviour l plan)) (λ k. total (agains_task (X behaviour l plan) k) Q) T B
        (each_from_in B stored_picked)
        (λ k. kept_few (X behaviour l plan) (form behaviour l plan) (Does behaviour l plan) (order behaviour l plan) (value behaviour l plan)
        (once behaviour l plan) (keeping behaviour l plan) (inner_run behaviour l plan r) k) in
        let b = up-within T (λ k. total (agains_task (X behaviour l plan) k) Q) in
        let c = again_sum T in
        omega (arith, a, b, c)
      where
        stored_picked : (c : TableAnswered) → In c B → keeping_one c ≤ up T (λ k. stores_task (X behaviour l plan) k c)
        stored_picked (table.store u o, table.was b) i =
            let k = state_task behaviour l plan u o (has_state behaviour l plan u o (stored_right behaviour l plan r u o b i)) in
            picked T u k.0 k.1
        stored_picked c i = let z = zeros T in omega (arith, z)

    -- ---- parts

    abbrev OfMember : TableAnswered → Type 0
    OfMember (table.part g u, table.count m) = In u (members l g)
    OfMember c = Unit {0}

    member_step : (a : Ask Envelope) (y : Reply Envelope) → GoodAsk W G a → Each OfMember (backend_call a y)
    member_step (to_table (table.part h u)) (from_table (table.count m)) g = ((order behaviour l plan).member h u g.0 g.1.0, tt)
    member_step (to_table c) (from_table y) g = (tt, tt)
    member_step a y g = tt

    member_steps : (ys : List (AskedAndAnswered Envelope)) → Each (λ (y : AskedAndAnswered Envelope). GoodAsk W G y.0) ys → Each OfMember (backend_calls ys)
    member_steps [] g = tt
    member_steps (y ∷ ys) g = each_append OfMember _ _ (member_step y.0 y.1 g.0) (member_steps ys g.1)

    its_answers : (p : ℕ) → Each (λ (y : AskedAndAnswered Envelope). GoodAnswer W G y.0 y.1) (r.core p)
    its_answers p = answers_right (X behaviour l plan) (form behaviour l plan) (Does behaviour l plan) (order behaviour l plan) (value behaviour l plan)
        (inner_run behaviour l plan r) p

    its_asks : (p : ℕ) → Each (λ (y : AskedAndAnswered Envelope). GoodAsk W G y.0) (r.core p)
    its_asks p = goods_from_careful W G (r.core p) (keeps W G its_closed taking (r.core p) tt (r.is_core p)) (its_answers p)

    closing_members : (b : Bool) → Each OfMember (cond b r.closing [])
    closing_members true = each_weaker only_reads r.closing r.closes
      where
        only_reads : (c : TableAnswered) → IsRead c → OfMember c
        only_reads (table.read t, table.found o) i = tt
        only_reads c i = elim i [ ]
    closing_members false = tt

    all_members : Each OfMember B
    all_members = each_from_by OfMember (answered_calls r.table)
        (λ p. subst (Each OfMember) (sym (r.keeps p))
        (each_append OfMember (backend_calls (r.core p)) (cond (eqb p 0) r.closing []) (member_steps (r.core p) (its_asks p)) (closing_members (eqb p 0))))

    part_task : (k : ℕ) → total (part_by k) B ≤ 1 + 0
    part_task k = ⊎_elim (λ z. omega (arith, z)) (λ h. heavy h.0 h.1 h.2) (find_heavy (part_by k) B)
      where
        named : (u : ℕ) (b : Bool) → eqb u k ≡ b → ◌≢◌ {A = ℕ} (cond b 1 0) 0 → u ≡ k
        named u true e d = eqb-true _ _ e
        named u false e d = absurd (d refl)

        same_group : (g h u : ℕ) → In k (members l g) → In u (members l h) → (b : Bool) → eqb u k ≡ b → cond b 1 0 ≤ cond (eqb h g) (cond b 1 0) 0
        same_group g h u i j true e =
            let there : In k (members l h) = subst (λ v. In v (members l h)) (eqb-true _ _ e) j in
            let groups : h ≡ g = (plan_apart l plan g k (some_times g k i)).1 h (some_times h k there) in
            subst (λ b. 1 ≤ cond b 1 0) (sym (eq-eqb h g groups)) (omega arith)
        same_group g h u i j false e = omega arith

        few : (g : ℕ) → In k (members l g) → (c : TableAnswered) → OfMember c → part_by k c ≤ returns_one g k c
        few g i (table.part h u, table.count j) m = same_group g h u i m (eqb u k) refl
        few g i c m = omega arith

        heavy : (c : TableAnswered) → In c B → part_by k c ≢ 0 → total (part_by k) B ≤ 1 + 0
        heavy (table.part g u, table.count m) i d =
            let here : In k (members l g) = subst (λ v. In v (members l g)) (named u (eqb u k) refl d)
            (in_each OfMember B all_members (table.part g u, table.count m) i) in
            let a = total-le-each (part_by k) (returns_one g k) B (each_weaker (few g here) B all_members) in
            let b = (part_once g k [] [] B (inner_run behaviour l plan r).table).0 in
            omega (arith, a, b)
        heavy c i d = absurd (d refl)

    parts_few : total returning B ≤ T
    parts_few =
        let a = spread returning part_by (λ k. 0) T B (each_weaker part_picked B all_members) part_task in
        let z = zeros T in omega (arith, a, z)
      where
        part_picked : (c : TableAnswered) → OfMember c → returning c ≤ up T (λ k. part_by k c)
        part_picked (table.part g u, table.count j) m = let k = member_task g u m in picked T u k.0 k.1
        part_picked c m = let z = zeros T in omega (arith, z)

    -- ---- each worker's calls

    abbrev opened_by : ℕ → ℕ
    opened_by p = cond (eqb p 0) (length r.opening) 0

    abbrev in_queue : (QueueAnswered Envelope → ℕ) → ℕ → ℕ
    in_queue w p = total w (by p (queue_calls r.queue))

    abbrev in_table : (TableAnswered → ℕ) → ℕ → ℕ
    in_table w p = total w (by p (answered_calls r.table))

    opening_sent : (b : Bool) → total publishing (cond b (published_all (map sealed r.opening)) []) ≡ cond b (length r.opening) 0
    opening_sent true = published_length r.opening
    opening_sent false = refl

    sent : (p : ℕ) → in_queue publishing p ≡ opened_by p + total publishing (broker_calls (r.core p))
    sent p =
        let f : in_queue publishing p ≡ total publishing (cond (eqb p 0) (published_all (map sealed r.opening)) [] ++ broker_calls (r.core p)) =
        follows_publishing ((inner_run behaviour l plan r).follows p) in
        let a = total-append publishing (cond (eqb p 0) (published_all (map sealed r.opening)) []) (broker_calls (r.core p)) in
        let o = opening_sent (eqb p 0) in
        omega (arith, f, a, o)

    taken : (p : ℕ) → total takes_one (broker_calls (r.core p)) ≤ in_queue takes_one p
    taken p =
        let f : total takes_one (cond (eqb p 0) (published_all (map sealed r.opening)) [] ++ broker_calls (r.core p)) ≤ 0 + in_queue takes_one p =
        follows_taking ((inner_run behaviour l plan r).follows p) in
        let a = total-append takes_one (cond (eqb p 0) (published_all (map sealed r.opening)) []) (broker_calls (r.core p)) in
        omega (arith, f, a)

    served : (w : TableAnswered → ℕ) (p : ℕ) → total w (backend_calls (r.core p)) ≤ in_table w p
    served w p =
        let e : in_table w p ≡ total w (backend_calls (r.core p)) + total w (cond (eqb p 0) r.closing []) =
        ap (total w) (r.keeps p) ∙ total-append w (backend_calls (r.core p)) (cond (eqb p 0) r.closing []) in
        omega (arith, e)

    abbrev all_by : ℕ → ℕ
    all_by p =
        in_queue publishing p + (in_queue takes_one p + (in_queue takes_one p + (in_table keeping_one p + (in_table returning p + in_table fills p))))

    one_worker : (p : ℕ) → opened_by p + calls_made (r.core p) ≤ all_by p
    one_worker p =
        let a = queue_run W taking (r.core p) (r.is_core p) in
        let b = table_run W taking (r.core p) (r.is_core p) in
        let c = reads_run taking (r.core p) tt (r.is_core p) (its_answers p) in
        omega (arith, a, b, c, sent p, taken p, served keeping_one p, served returning p, served fills p)

    pub few_calls : (n : ℕ) → length r.opening + delivered_again r.queue + of_workers n (λ p. calls_made (r.core p)) ≤ most_calls l (delivered_again r.queue)
    few_calls n =
        let N : ℕ = callers behaviour l plan r + n in
        let queue_below : Each (λ (e : ℕ × QueueAnswered Envelope). e.0 ≤ N) (queue_calls r.queue) =
        each_weaker (λ e h. omega (arith, h)) (queue_calls r.queue) (inner_run behaviour l plan r).broker_callers in
        let table_below : Each (λ (e : ℕ × TableAnswered). e.0 ≤ N) (answered_calls r.table) =
        each_weaker (λ e h. omega (arith, h)) (answered_calls r.table) (inner_run behaviour l plan r).backend_callers in
        let whole = sum_to-le N (λ p. opened_by p + calls_made (r.core p)) all_by one_worker in
        let first = sum_to-both N opened_by (λ p. calls_made (r.core p)) in
        let opening = at_zero N (length r.opening) in
        let a = sum_to-both N (in_queue publishing)
        (λ p. in_queue takes_one p + (in_queue takes_one p + (in_table keeping_one p + (in_table returning p + in_table fills p)))) in
        let b = sum_to-both N (in_queue takes_one) (λ p. in_queue takes_one p + (in_table keeping_one p + (in_table returning p + in_table fills p))) in
        let c = sum_to-both N (in_queue takes_one) (λ p. in_table keeping_one p + (in_table returning p + in_table fills p)) in
        let d = sum_to-both N (in_table keeping_one) (λ p. in_table returning p + in_table fills p) in
        let e = sum_to-both N (in_table returning) (in_table fills) in
        let published = total_by publishing N (queue_calls r.queue) queue_below in
        let takes = total_by takes_one N (queue_calls r.queue) queue_below in
        let kept = total_by keeping_one N (answered_calls r.table) table_below in
        let returned = total_by returning N (answered_calls r.table) table_below in
        let filled = total_by fills N (answered_calls r.table) table_below in
        let fewer = takes_few [] [] Q (inner_run behaviour l plan r).queue in
        let more = more_sum n (callers behaviour l plan r) (λ p. calls_made (r.core p)) in
        let same = same_sum n (λ p. calls_made (r.core p)) in
        omega (
          arith,
          whole,
          first,
          opening,
          a,
          b,
          c,
          d,
          e,
          published,
          takes,
          kept,
          returned,
          filled,
          fewer,
          more,
          same,
          publishes_few,
          stores_few,
          parts_few,
          fills_few,
        )
