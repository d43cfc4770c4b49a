-- The histories of a run have few calls, and with a gate that wants nothing no call is made again.
use Rattle.std.proofs.Common.{◌≡◌, ◌∙◌, ◌≤◌, ℕ, suc, ◌+◌, Bool, true, false, cond, eqb, List, [], ◌∷◌, ◌++◌, map, length, Option, Some, None, inl, inr, refl, ap, subst, arith}
use Rattle.std.proofs.lemmas.List.{length-append}
use Rattle.canvas_task.specs.Apply.{Behaviour}
use Rattle.canvas_history.specs.Answers.{answered_calls}
use Rattle.canvas_history.specs.Callers.{told}
use Rattle.canvas_history.specs.History.{split, join, calls}
use Rattle.canvas_semantics.specs.Evaluation.{State}
use Rattle.canvas_semantics.specs.Line.{Line, count_line}
use Rattle.canvas_rewrite.specs.Planned.{IsPlan}
use Rattle.canvas_history.specs.Lists.{In, by, total, seconds}
use Rattle.canvas_envelope.specs.Content.{Content}
use Rattle.canvas_envelope.specs.declared.envelope.Envelope.{Envelope}
use Rattle.canvas_history.specs.Queue as queue
use Rattle.canvas_history.specs.Queue.{QueueEntry}
use Rattle.canvas_runs.specs.Calls.{QueueAnswered, TableAnswered, CoreCall, makes, acknowledges, FollowsScripts, scripts_all, scripts_publish, scripts_list_take, scripts_core_take, scripts_again, scripts_ack, AskedAndAnswered, broker_call, core_call, broker_calls, core_calls, backend_calls, takes_one}
use Rattle.canvas_runs.specs.Core.{Ask, Reply, to_queue, to_table, from_queue, from_table, refused, rest, rested, end, ack, acked}
use Rattle.canvas_runs.specs.Following.{Pass, Seat}
use Rattle.canvas_runs.specs.Law.{SecondPart, agains_one_of, redeliveries, publications, takes_of_task, again_stores}
use Rattle.canvas_runs.specs.Logs.{queue_calls}
use Rattle.canvas_runs.specs.Progress.{calls_made, redelivers_one, delivered_again, most_calls}
use Rattle.canvas_runs.specs.Run.{Run, Closed, published_all}
use Rattle.canvas_runs.specs.Worker.{sealed}
use Rattle.canvas_runs.proofs.Ends.FewCalls.{same_sum, few_calls}
use Rattle.canvas_runs.proofs.Laws.FirstLaw.{inner_run, callers}
use Rattle.canvas_runs.proofs.Laws.SecondLaw.{second_part}
use Rattle.canvas_runs.proofs.Lists.Sums.{total-append, sum_to-le, sum_to-both, total_by, at_zero}
use Rattle.canvas_runs.specs.CallerRuns.{Ran, EndedWell}
use Rattle.canvas_runs.specs.CallerRows.{reads_from}
use Rattle.canvas_runs.proofs.ByCallers.FromCallerRuns.{the_run, the_closed}
use Rattle.canvas_engine.specs.RecordLaws.{FewEntries, AllArePlain}

-- ---- how long a list is

abbrev one : {X : Type 0} → X → ℕ
one x = 1

long : {X : Type 0} (xs : List X) → total one xs ≡ length xs
long [] = refl
long (x ∷ xs) = let k = long xs in omega (arith, k)

long_seconds : {X : Type 0} (es : List (ℕ × X)) → total one (seconds es) ≡ length es
long_seconds [] = refl
long_seconds (e ∷ es) = let k = long_seconds es in omega (arith, k)

long_published : (ms : List Content) → length (map makes (published_all (map sealed ms))) ≡ length ms
long_published [] = refl
long_published (m ∷ ms) = ap suc (long_published ms)

long_reads : (k : ℕ) (rows : List State) → length (reads_from k rows) ≡ length rows
long_reads k [] = refl
long_reads k (s ∷ rows) = ap suc (long_reads (suc k) rows)

-- ---- the calls of the queue that follow a core run

abbrev core_take : CoreCall Envelope → ℕ
core_take (makes c) = takes_one c
core_take acknowledges = 0

made_takes : (cs : List (QueueAnswered Envelope)) → total core_take (map makes cs) ≡ total takes_one cs
made_takes [] = refl
made_takes (c ∷ cs) = ap (λ n. takes_one c + n) (made_takes cs)

none_published : (es : List Envelope) → total core_take (map makes (published_all es)) ≡ 0
none_published [] = refl
none_published (e ∷ es) = let k = none_published es in omega (arith, k)

ask_takes : (a : Ask Envelope) (r : Reply Envelope) → total core_take (core_call a r) ≡ total takes_one (broker_call a r)
ask_takes (to_queue c) r = made_takes (broker_call (to_queue c) r)
ask_takes (to_table c) r = made_takes (broker_call (to_table c) r)
ask_takes rest r = made_takes (broker_call rest r)
ask_takes end r = made_takes (broker_call end r)
ask_takes ack (from_queue x) = made_takes (broker_call ack (from_queue x))
ask_takes ack refused = refl
ask_takes ack (from_table x) = refl
ask_takes ack acked = refl
ask_takes ack (rested b) = refl

run_takes : (xs : List (AskedAndAnswered Envelope)) → total core_take (core_calls xs) ≡ total takes_one (broker_calls xs)
run_takes [] = refl
run_takes (x ∷ xs) =
    let a = total-append core_take (core_call x.0 x.1) (core_calls xs) in
    let b = total-append takes_one (broker_call x.0 x.1) (broker_calls xs) in
    omega (arith, a, b, ask_takes x.0 x.1, run_takes xs)

-- but for the redeliveries, and for takes that the core run hasn't made yet
follows_few : {h : Option Envelope} {ts : List Envelope} {cs : List (CoreCall Envelope)} {ls : List (QueueAnswered Envelope)} → FollowsScripts h ts cs ls
    → total one ls + total core_take cs ≤ length cs + total takes_one ls + total redelivers_one ls
follows_few scripts_all = omega arith
follows_few (scripts_publish f) = let r = follows_few f in omega (arith, r)
follows_few (scripts_list_take f) = let r = follows_few f in omega (arith, r)
follows_few (scripts_core_take f) = let r = follows_few f in omega (arith, r)
follows_few (scripts_again f) = let r = follows_few f in omega (arith, r)
follows_few (scripts_ack f) = let r = follows_few f in omega (arith, r)

-- ---- few calls

module _ (behaviour : Behaviour) (l : Line) (plan : IsPlan l) (r : Run behaviour l) (closed : Closed behaviour l r) where
  abbrev Q : List (ℕ × QueueAnswered Envelope)
  Q = queue_calls r.queue

  abbrev T : List (ℕ × TableAnswered)
  T = answered_calls r.table

  abbrev N : ℕ
  N = callers behaviour l plan r

  abbrev opening_of : ℕ → ℕ
  opening_of p = cond (eqb p 0) (length r.opening) 0

  abbrev closing_of : ℕ → ℕ
  closing_of p = cond (eqb p 0) (length r.closing) 0

  abbrev again_by : ℕ → ℕ
  again_by p = total redelivers_one (by p Q)

  abbrev of_queue : ℕ → ℕ
  of_queue p = length (core_calls (r.core p))

  abbrev of_table : ℕ → ℕ
  of_table p = length (backend_calls (r.core p))

  opened : (b : Bool) → (length (map makes (cond b (published_all (map sealed r.opening)) [])) ≡ cond b (length r.opening) 0)
      × (total core_take (map makes (cond b (published_all (map sealed r.opening)) [])) ≡ 0)
  opened true = (long_published r.opening, none_published (map sealed r.opening))
  opened false = (refl, refl)

  queue_by : (p : ℕ) → total one (by p Q) ≤ opening_of p + (again_by p + of_queue p)
  queue_by p =
      let front : List (CoreCall Envelope) = map makes (cond (eqb p 0) (published_all (map sealed r.opening)) []) in
      let f : total one (by p Q) + total core_take (front ++ core_calls (r.core p))
      ≤ length (front ++ core_calls (r.core p)) + total takes_one (by p Q) + total redelivers_one (by p Q) = follows_few (r.follows p) in
      let o = opened (eqb p 0) in
      let a = length-append front (core_calls (r.core p)) in
      let b = total-append core_take front (core_calls (r.core p)) in
      omega (arith, f, o.0, o.1, a, b, run_takes (r.core p), closed.all_used p)

  closed_by : (b : Bool) → length (cond b r.closing []) ≡ cond b (length r.closing) 0
  closed_by true = refl
  closed_by false = refl

  table_by : (p : ℕ) → total one (by p T) ≤ of_table p + closing_of p
  table_by p =
      let e : total one (by p T) ≡ length (backend_calls (r.core p) ++ cond (eqb p 0) r.closing []) =
      ap (total one) (r.keeps p) ∙ long (backend_calls (r.core p) ++ cond (eqb p 0) r.closing []) in
      let a = length-append (backend_calls (r.core p)) (cond (eqb p 0) r.closing []) in
      omega (arith, e, a, closed_by (eqb p 0))

  few_in : length Q + length T ≤ most_calls l (delivered_again r.queue) + length r.closing
  few_in =
      let queue = sum_to-le N (λ p. total one (by p Q)) (λ p. opening_of p + (again_by p + of_queue p)) queue_by in
      let table = sum_to-le N (λ p. total one (by p T)) (λ p. of_table p + closing_of p) table_by in
      let queue_all = total_by one N Q (inner_run behaviour l plan r).broker_callers in
      let table_all = total_by one N T (inner_run behaviour l plan r).backend_callers in
      let again_all = total_by redelivers_one N Q (inner_run behaviour l plan r).broker_callers in
      let a = sum_to-both N opening_of (λ p. again_by p + of_queue p) in
      let b = sum_to-both N again_by of_queue in
      let c = sum_to-both N of_table closing_of in
      let d = sum_to-both N of_queue of_table in
      let opening = at_zero N (length r.opening) in
      let closing = at_zero N (length r.closing) in
      let few = few_calls behaviour l plan r N in
      let same = same_sum N (λ p. calls_made (r.core p)) in
      let long_queue = long_seconds Q in
      let long_table = long_seconds T in
      omega (arith, queue, table, queue_all, table_all, again_all, a, b, c, d, opening, closing, few, same, long_queue, long_table)

few_so : (behaviour : Behaviour) (l : Line) → IsPlan l → (pass : Pass) (seat : Seat) (rows : List State) (ran : Ran behaviour l pass seat)
    → EndedWell behaviour l pass seat ran → ran.closing ≡ reads_from 1 rows → length rows ≡ count_line l
    → length (queue_calls (told pass)) + length (answered_calls seat.seen) ≤ most_calls l (delivered_again (told pass)) + count_line l
few_so behaviour l plan pass seat rows ran well read each =
    let few = few_in behaviour l plan (the_run behaviour l pass seat ran) (the_closed behaviour l pass seat ran well) in
    let many : length ran.closing ≡ count_line l = ap length read ∙ (long_reads 1 rows ∙ each) in
    subst (λ m. length (queue_calls (told pass)) + length (answered_calls seat.seen) ≤ most_calls l (delivered_again (told pass)) + m) many few

pub few_entries : FewEntries
few_entries behaviour l plan n rows r h =
    few_so behaviour l plan r.pass r.seat rows h.ran.to.ran h.ran.well h.ran.to.read h.ran.to.each

-- ---- nothing is delivered again

abbrev NoneAgain : List (QueueEntry Envelope) → Type 0
NoneAgain log = (p : ℕ) (e : Envelope) (a : Option Envelope) → In (calls p (queue.redeliver e) a) log → ⊥

-- a weight that only redeliveries have
zero_total : (w : QueueAnswered Envelope → ℕ) → ((a : Option Envelope) → w (queue.take, a) ≡ 0)
    → ((e : Envelope) (a : Option Envelope) → w (queue.publish e, a) ≡ 0) → (log : List (QueueEntry Envelope)) → NoneAgain log
    → total w (seconds (queue_calls log)) ≡ 0
zero_total w t u [] n = refl
zero_total w t u (split p q ∷ log) n = zero_total w t u log (λ c e a i. n c e a (inr i))
zero_total w t u (join p q ∷ log) n = zero_total w t u log (λ c e a i. n c e a (inr i))
zero_total w t u (calls p queue.take None ∷ log) n = zero_total w t u log (λ c e a i. n c e a (inr i))
zero_total w t u (calls p queue.take (Some x) ∷ log) n =
    let later = zero_total w t u log (λ c e a i. n c e a (inr i)) in omega (arith, later, t (Some x))
zero_total w t u (calls p (queue.publish e) a ∷ log) n =
    let later = zero_total w t u log (λ c e a i. n c e a (inr i)) in omega (arith, later, u e a)
zero_total w t u (calls p (queue.redeliver e) a ∷ log) n = absurd (n p e a (inl refl))

pub all_are_plain : AllArePlain
all_are_plain behaviour l plan n rows r h only =
    let none : NoneAgain (told r.pass) = λ p e a i. (only p e a i).2 in
    let none_of : (k : ℕ) → redeliveries l k (told r.pass) ≡ 0 = λ k. zero_total (agains_one_of l k) (λ a. refl) (λ e a. refl) (told r.pass) none in
    let second : SecondPart behaviour l h.run = second_part behaviour l plan h.run h.closed in
    let taken : (k : ℕ) → takes_of_task l k (told r.pass) ≡ publications l k (told r.pass) + redeliveries l k (told r.pass) =
    λ k. subst (λ log. takes_of_task l k log ≡ publications l k log + redeliveries l k log) h.queue (second.taken k) in
    let stored : (k : ℕ) → again_stores k r.seat.seen ≡ redeliveries l k (told r.pass) =
    λ k. subst (λ log. again_stores k r.seat.seen ≡ redeliveries l k log) h.queue
    (subst (λ log. again_stores k log ≡ redeliveries l k h.run.queue) h.table (second.stored_again k)) in
    record {
      none_again = zero_total redelivers_one (λ a. refl) (λ e a. refl) (told r.pass) none;
      taken = λ k. no_more (takes_of_task l k (told r.pass)) (publications l k (told r.pass)) (redeliveries l k (told r.pass)) (taken k) (none_of k);
      first = λ k. stored k ∙ none_of k;
    }
  where
    no_more : (a b c : ℕ) → a ≡ b + c → c ≡ 0 → a ≡ b
    no_more a b c e z = omega (arith, e, z)
