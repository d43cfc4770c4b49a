-- The counts of the workers are those of their entries.
use Rattle.std.proofs.Common.{◌≡◌, ℕ, suc, ◌+◌, List, [], ◌∷◌, length, map, Some, refl, sym, ap, subst, ◌∙◌, arith}
use Rattle.canvas_task.specs.Apply.{Behaviour}
use Rattle.canvas_semantics.specs.Line.{Line}
use Rattle.canvas_rewrite.specs.Planned.{IsPlan}
use Rattle.canvas_envelope.specs.Content.{Content}
use Rattle.canvas_envelope.specs.declared.envelope.Envelope.{Envelope}
use Rattle.canvas_history.specs.Roster.{Roster, roster_of}
use Rattle.canvas_history.specs.Queue.{QueueEntry as Entries}
use Rattle.canvas_history.specs.Answers.{answered_calls}
use Rattle.canvas_history.specs.Table as table
use Rattle.canvas_history.specs.Queue as queue
use Rattle.canvas_runs.specs.Book.{book_on}
use Rattle.canvas_runs.specs.Following.{Pass, Seat, IsDone, starting}
use Rattle.canvas_runs.specs.Calls.{QueueAnswered, TableAnswered, broker_calls, backend_calls, takes_one}
use Rattle.canvas_history.specs.Lists.{Each, by, seconds, total}
use Rattle.canvas_runs.specs.Logs.{queue_calls}
use Rattle.canvas_runs.specs.Run.{Run, IsRead, published_all}
use Rattle.canvas_runs.specs.Tally.{Tally, CountsMore, CountsOf, EachCounts, is_lost, publishing, storing, returning, dropping}
use Rattle.canvas_runs.specs.Worker.{opened, sealed}
use Rattle.canvas_runs.proofs.Objects.Accords.{FollowsCore, follows_all, follows_publish, follows_list_take, follows_core_take, follows_again, accords_run}
use Rattle.canvas_runs.proofs.Objects.CallsOf.{own_calls, queue_own, published_takes}
use Rattle.canvas_runs.proofs.Laws.Facts.{X, form, Does, order, value}
use Rattle.canvas_runs.proofs.Laws.FirstLaw.{inner_run}
use Rattle.canvas_runs.proofs.Objects.Histories.{GoodPublish, GoodTake, follows_takes, queue_takes, each_by, each_seconds}
use Rattle.canvas_runs.proofs.Runs.Right.{IsRunSealed, publishes_right}
use Rattle.canvas_runs.proofs.Lists.Sums.{total-append}
use Rattle.canvas_runs.proofs.Lists.Words.{each_right}
use Rattle.canvas_runs.specs.PerCaller.{HasQueueCalls, HasTableCalls}
use Rattle.canvas_runs.specs.CallerRuns.{PlanWorker, HasFollowed, CallerRun, Ran, EndedWell, OwnTally}
use Rattle.canvas_runs.proofs.ByCallers.FromCallerRuns.{the_run, the_queue, sent as opening_calls, passes, seats, queue_zero, table_zero}

-- ---- calls

module _ (behaviour : Behaviour) (plan : Roster) where
  -- envelopes that open are not dropped
  Opens : Envelope → Type 0
  Opens e = is_lost (opened (book_on plan) e) ≡ 0

  none_dropped : (cs : List (QueueAnswered Envelope)) → Each (GoodTake Opens) cs → total (dropping plan) cs ≡ 0
  unfolding Opens
  none_dropped [] g = refl
  none_dropped ((queue.take, Some e) ∷ cs) g = let more = none_dropped cs g.1 in let here = g.0 in omega (arith, here, more)
  none_dropped (c ∷ cs) g = let more = none_dropped cs g.1 in omega (arith, more)

follows_publishing : {ts : List Envelope} {cs ls : List (QueueAnswered Envelope)} → FollowsCore ts cs ls → total publishing ls ≡ total publishing cs
follows_publishing follows_all = refl
follows_publishing (follows_publish f) = let k = follows_publishing f in omega (arith, k)
follows_publishing (follows_list_take f) = let k = follows_publishing f in omega (arith, k)
follows_publishing (follows_core_take f) = let k = follows_publishing f in omega (arith, k)
follows_publishing (follows_again f) = let k = follows_publishing f in omega (arith, k)

same_count : (n m k : ℕ) → CountsMore 0 n k → n ≡ m → CountsMore 0 m k
same_count n m k a e = subst (λ x. CountsMore 0 x k) e a

no_count : (n k : ℕ) → CountsMore 0 n k → n ≡ 0 → k ≡ 0
no_count n k a e = omega (arith, a, e)

publishing_all : (es : List Envelope) → total publishing (published_all es) ≡ length es
publishing_all [] = refl
publishing_all (e ∷ es) = let k = publishing_all es in omega (arith, k)

mapped : (cs : List Content) → length (map sealed cs) ≡ length cs
mapped [] = refl
mapped (c ∷ cs) = ap suc (mapped cs)

only_reads : (cs : List TableAnswered) → Each IsRead cs → (total storing cs ≡ 0) × (total returning cs ≡ 0)
only_reads [] i = (refl, refl)
only_reads ((table.read t, table.found x) ∷ cs) i = let k = only_reads cs i.1 in (omega (arith, k.0), omega (arith, k.1))
only_reads (c ∷ cs) i = absurd i.0

-- ---- a worker that was followed from its beginning

module _ (behaviour : Behaviour) (plan : Roster) (p : Pass) (s : Seat) (w : PlanWorker) (f : HasFollowed behaviour plan (starting p s) w)
    (none_held : w.held ≡ []) where
  made_taken : total takes_one f.made ≡ total takes_one (broker_calls f.run)
  made_taken = let none : length w.held ≡ 0 = ap length none_held in omega (arith, f.used, none)

  made_published : total publishing f.made ≡ total publishing (broker_calls f.run)
  made_published = follows_publishing (accords_run f.run f.follows)

  taken_kept : (P : Envelope → Type 0) → ((e : Envelope) → P e → Opens behaviour plan e) → Each (GoodTake P) f.made
      → total (dropping plan) (broker_calls f.run) ≡ 0
  taken_kept P opens g = none_dropped behaviour plan (broker_calls f.run) (weaker (broker_calls f.run) (follows_takes P (accords_run f.run f.follows) tt g))
    where
      weaker : (cs : List (QueueAnswered Envelope)) → Each (GoodTake P) cs → Each (GoodTake (Opens behaviour plan)) cs
      weaker [] g = tt
      weaker ((queue.take, Some e) ∷ cs) g = (opens e g.0, weaker cs g.1)
      weaker (c ∷ cs) g = (tt, weaker cs g.1)

module _ (behaviour : Behaviour) (l : Line) (plan : IsPlan l) (pass : Pass) (seat : Seat) (r : Ran behaviour l pass seat)
    (w : EndedWell behaviour l pass seat r) where
  abbrev P : Roster
  P = roster_of l

  abbrev queued : List (Entries Envelope)
  queued = the_queue behaviour l pass seat r

  abbrev its_run : Run behaviour l
  its_run = the_run behaviour l pass seat r

  abbrev Good : Envelope → Type 0
  Good e = IsRunSealed (X behaviour l plan) (form behaviour l plan) (Does behaviour l plan) (order behaviour l plan) (value behaviour l plan)
      (inner_run behaviour l plan its_run) e

  good_opens : (e : Envelope) → Good e → Opens behaviour P e
  unfolding Opens
  good_opens e g = ap is_lost (ap (opened (book_on P)) g.1 ∙ (order behaviour l plan).opened g.0 g.3 g.2)

  good_by : (p : ℕ) → Each (GoodTake Good) (by p (queue_calls queued))
  good_by p =
      each_by (GoodTake Good) p (queue_calls queued) (queue_takes Good [] [] (seconds (queue_calls queued)) (inner_run behaviour l plan its_run).queue tt tt
      (each_seconds (GoodPublish Good) (queue_calls queued)
      (publishes_right (X behaviour l plan) (form behaviour l plan) (Does behaviour l plan) (order behaviour l plan) (value behaviour l plan)
      (inner_run behaviour l plan its_run))))

  callers_count : (k : ℕ) (ms : List (CallerRun behaviour P)) → HasQueueCalls behaviour P k ms queued → HasTableCalls behaviour P k ms seat.seen
      → Each (λ (m : CallerRun behaviour P). IsDone m.ended) ms → EachCounts queued seat.seen k (map (λ (m : CallerRun behaviour P). m.ended.tally) ms)
  callers_count k [] h t d = tt
  callers_count k (m ∷ ms) h t d =
      let f = m.followed in
      let calls : by k (queue_calls queued) ≡ f.made = queue_own k queued f.made f.follows (own_calls k queued [] f.made refl h.0) in
      let replies : by k (answered_calls seat.seen) ≡ backend_calls f.run = own_calls k seat.seen [] (backend_calls f.run) refl t.0 in
      let c = f.counts in
      let lost = taken_kept behaviour P m.pass m.seat m.ended f d.0.1 Good good_opens (subst (λ cs. Each (GoodTake Good) cs) calls (good_by k)) in (
        (
          same_count (total takes_one (broker_calls f.run)) (total takes_one (by k (queue_calls queued))) m.ended.tally.taken c.taken
              (sym (ap (λ x. total takes_one x) calls ∙ made_taken behaviour P m.pass m.seat m.ended f d.0.1)),
          same_count (total publishing (broker_calls f.run)) (total publishing (by k (queue_calls queued))) m.ended.tally.published c.published
              (sym (ap (λ x. total publishing x) calls ∙ made_published behaviour P m.pass m.seat m.ended f d.0.1)),
          same_count (total storing (backend_calls f.run)) (total storing (by k (answered_calls seat.seen))) m.ended.tally.first c.first
              (sym (ap (λ x. total storing x) replies)),
          same_count (total returning (backend_calls f.run)) (total returning (by k (answered_calls seat.seen))) m.ended.tally.parts c.parts
              (sym (ap (λ x. total returning x) replies)),
          no_count (total (dropping P) (broker_calls f.run)) m.ended.tally.dropped c.dropped lost,
        ),
        callers_count (suc k) ms h.1 t.1 d.1,
      )

  more_sent : (n k a t : ℕ) → CountsMore 0 k a → CountsMore n a t → CountsMore 0 (n + k) t
  more_sent n k a t e f = omega (arith, e, f)

  own_counts : (t : Tally) → OwnTally behaviour l pass seat r t → CountsOf queued seat.seen 0 t
  own_counts t o =
      let f = r.works in
      let c = f.counts in
      let before : List (QueueAnswered Envelope) = opening_calls behaviour l pass seat r in
      let calls = queue_zero behaviour l pass seat r in
      let replies = table_zero behaviour l pass seat r in
      let none = published_takes (map sealed r.opening) in
      let sends = publishing_all (map sealed r.opening) ∙ mapped r.opening in
      let reads = only_reads r.closing r.closes in
      let all_taken : total takes_one (by 0 (queue_calls queued)) ≡ total takes_one (broker_calls f.run) =
      ap (λ x. total takes_one x) calls
      ∙ (total-append takes_one before f.made ∙ (let k = made_taken behaviour P r.pass_joined r.seat_joined r.own f w.own.1 in omega (arith, k, none))) in
      let all_sent : total publishing (by 0 (queue_calls queued)) ≡ length r.opening + total publishing (broker_calls f.run) =
      ap (λ x. total publishing x) calls
      ∙ (total-append publishing before f.made ∙ (let k = made_published behaviour P r.pass_joined r.seat_joined r.own f w.own.1 in
      omega (arith, k, sends))) in
      let all_first : total storing (by 0 (answered_calls seat.seen)) ≡ total storing (backend_calls f.run) =
      ap (λ x. total storing x) replies
      ∙ (total-append storing (backend_calls f.run) r.closing ∙ (let z = reads.0 in omega (arith, z))) in
      let all_parts : total returning (by 0 (answered_calls seat.seen)) ≡ total returning (backend_calls f.run) =
      ap (λ x. total returning x) replies
      ∙ (total-append returning (backend_calls f.run) r.closing ∙ (let z = reads.1 in omega (arith, z))) in
      let lost = taken_kept behaviour P r.pass_joined r.seat_joined r.own f w.own.1 Good good_opens
      (each_right (GoodTake Good) before f.made (subst (λ cs. Each (GoodTake Good) cs) calls (good_by 0))) in (
        subst (λ n. CountsMore 0 (total takes_one (by 0 (queue_calls queued))) n) (sym o.0)
            (same_count (total takes_one (broker_calls f.run)) (total takes_one (by 0 (queue_calls queued))) r.own.tally.taken c.taken (sym all_taken)),
        same_count (length r.opening + total publishing (broker_calls f.run)) (total publishing (by 0 (queue_calls queued))) t.published
            (more_sent (length r.opening) (total publishing (broker_calls f.run)) r.own.tally.published t.published c.published o.1) (sym all_sent),
        subst (λ n. CountsMore 0 (total storing (by 0 (answered_calls seat.seen))) n) (sym o.2)
            (same_count (total storing (backend_calls f.run)) (total storing (by 0 (answered_calls seat.seen))) r.own.tally.first c.first (sym all_first)),
        subst (λ n. CountsMore 0 (total returning (by 0 (answered_calls seat.seen))) n) (sym o.3)
            (same_count (total returning (backend_calls f.run)) (total returning (by 0 (answered_calls seat.seen))) r.own.tally.parts c.parts (sym all_parts)),
        o.4 ∙ no_count (total (dropping P) (broker_calls f.run)) r.own.tally.dropped c.dropped lost,
      )

  pub tallies_count : (own : Tally) → OwnTally behaviour l pass seat r own
      → EachCounts queued seat.seen 0 (own ∷ map (λ (m : CallerRun behaviour P). m.ended.tally) r.callers)
  tallies_count own o = (own_counts own o, callers_count 1 r.callers (passes behaviour l pass seat r).1.each (seats behaviour l pass seat r).each w.each)
