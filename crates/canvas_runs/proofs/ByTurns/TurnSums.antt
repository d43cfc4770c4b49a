-- The steps of a run by turns that are calls are few.
use Rattle.std.proofs.Common.{◌≡◌, ℕ, suc, ◌+◌, ◌*◌, ◌≤◌, List, [], ◌∷◌, ◌++◌, length, Some, None, refl, ap, ap₂, ◌∙◌, arith, add-mul, mul-le-mul_left}
use Rattle.std.proofs.lemmas.List.{length-append}
use Rattle.canvas_task.specs.Apply.{Behaviour}
use Rattle.canvas_semantics.specs.Line.{Line, count_line}
use Rattle.canvas_envelope.specs.declared.envelope.Envelope.{Envelope}
use Rattle.canvas_history.specs.Answers.{answered_calls, entries_by, splits_of}
use Rattle.canvas_history.specs.Table as table
use Rattle.canvas_history.specs.Queue as queue
use Rattle.canvas_runs.specs.Calls.{QueueAnswered, TableAnswered, broker_call, backend_call, backend_calls, takes_one, AskedAndAnswered, scripts_of, core_call, core_calls}
use Rattle.canvas_runs.specs.Core.{Ask, Reply, to_queue, to_table, ack, from_queue, from_table, acked}
use Rattle.canvas_history.specs.Lists.{Each, by, total, seconds}
use Rattle.canvas_runs.specs.Logs.{queue_calls}
use Rattle.canvas_runs.specs.Run.{Run, published_all}
use Rattle.canvas_runs.specs.Tally.{publishing, returning}
use Rattle.canvas_runs.proofs.Lists.Sums.{total-append, sum_to-le, sum_to-both, total_by}
use Rattle.canvas_runs.proofs.Objects.CallsOf.{tag, seconds-append, calls_append, calls_splits, calls_entries, queue_append, queue_splits, queue_entries, broker_found, published_found}
use Rattle.canvas_runs.proofs.Lists.Words.{each_weaker}
use Rattle.canvas_runs.specs.Termination.{most_calls}
use Rattle.canvas_runs.specs.TurnLaws.{ByTurns}
use Rattle.canvas_runs.specs.Turns.{Step, round, redelivers_one, redeliveries_in}
use Rattle.canvas_runs.proofs.ByTurns.TurnLaw.{holds, the_run}
use Rattle.canvas_runs.proofs.ByTurns.TurnRuns.{queue_lines, table_lines, queue_log, table_log, firsts as first_envelopes}
use Rattle.canvas_runs.specs.Progress.{calls_made, redelivers_one as redelivering, most_calls as of_a_run}
use Rattle.canvas_runs.proofs.Ends.FewCalls.{few_calls as of_runs, same_sum}

total-tag : {A : Type 0} (w : A → ℕ) (p : ℕ) (cs : List A) → total w (seconds (tag p cs)) ≡ total w cs
total-tag w p [] = refl
total-tag w p (c ∷ cs) = ap (λ k. w c + k) (total-tag w p cs)

total-seconds : {A : Type 0} (w : A → ℕ) (xs : List (ℕ × A)) → total (λ x. w x.1) xs ≡ total w (seconds xs)
total-seconds w [] = refl
total-seconds w (x ∷ xs) = ap (λ k. w x.1 + k) (total-seconds w xs)

abbrev pub keeping_one : TableAnswered → ℕ
keeping_one (table.store t o, table.was b) = 1
keeping_one c = 0

abbrev pub reading_one : TableAnswered → ℕ
reading_one (table.read t, table.found x) = 1
reading_one c = 0

module _ (behaviour : Behaviour) (l : Line) where
  -- whether a step is a call
  abbrev pub in_queue : (QueueAnswered Envelope → ℕ) → AskedAndAnswered Envelope → ℕ
  in_queue w y = total w (broker_call y.0 y.1)

  abbrev pub in_table : (TableAnswered → ℕ) → AskedAndAnswered Envelope → ℕ
  in_table w y = total w (backend_call y.0 y.1)

  -- or an acknowledgement
  abbrev pub acks_one : Ask Envelope → Reply Envelope → ℕ
  acks_one ack acked = 1
  acks_one a r = 0

  abbrev pub calls_of : AskedAndAnswered Envelope → ℕ
  calls_of y = (in_queue publishing y + in_queue takes_one y) + (in_table keeping_one y + in_table returning y + in_table reading_one y) + acks_one y.0 y.1
      + redelivers_one y.0

  abbrev pub calls_in : List Step → ℕ
  calls_in xs = total (λ x. calls_of x.1) xs

  lines_total : (w : QueueAnswered Envelope → ℕ) (xs : List Step) → total w (seconds (queue_calls (queue_lines behaviour l xs)))
      ≡ total (λ x. in_queue w x.1) xs
  lines_total w [] = refl
  lines_total w (x ∷ xs) =
      let call : List (QueueAnswered Envelope) = broker_call x.1.0 x.1.1 in
      ap (λ g. total w (seconds g)) (queue_append (entries_by x.0 call) (queue_lines behaviour l xs)
      ∙ ap (λ g. g ++ queue_calls (queue_lines behaviour l xs)) (queue_entries x.0 call (broker_found x.1.0 x.1.1)))
      ∙ (ap (total w) (seconds-append (tag x.0 call) (queue_calls (queue_lines behaviour l xs)))
      ∙ (total-append w (seconds (tag x.0 call)) (seconds (queue_calls (queue_lines behaviour l xs)))
      ∙ ap₂ (λ a b. a + b) (total-tag w x.0 call) (lines_total w xs)))

  rows_total : (w : TableAnswered → ℕ) (xs : List Step) → total w (seconds (answered_calls (table_lines behaviour l xs))) ≡ total (λ x. in_table w x.1) xs
  rows_total w [] = refl
  rows_total w (x ∷ xs) =
      let call : List TableAnswered = backend_call x.1.0 x.1.1 in
      ap (λ g. total w (seconds g)) (calls_append (entries_by x.0 call) (table_lines behaviour l xs)
      ∙ ap (λ g. g ++ answered_calls (table_lines behaviour l xs)) (calls_entries x.0 call))
      ∙ (ap (total w) (seconds-append (tag x.0 call) (answered_calls (table_lines behaviour l xs)))
      ∙ (total-append w (seconds (tag x.0 call)) (seconds (answered_calls (table_lines behaviour l xs)))
      ∙ ap₂ (λ a b. a + b) (total-tag w x.0 call) (rows_total w xs)))

  pub queue_split : (w : QueueAnswered Envelope → ℕ) (n : ℕ) (xs : List Step)
      → total w (seconds (queue_calls (queue_log behaviour l n xs))) ≡ total w (published_all (first_envelopes behaviour l)) + total (λ x. in_queue w x.1) xs
  queue_split w n xs =
      let opening = entries_by 0 (published_all (first_envelopes behaviour l)) in
      ap (λ g. total w (seconds g)) (queue_append (splits_of (round n)) (opening ++ queue_lines behaviour l xs)
      ∙ ap (λ g. g ++ queue_calls (opening ++ queue_lines behaviour l xs)) (queue_splits (round n)))
      ∙ (ap (λ g. total w (seconds g)) (queue_append opening (queue_lines behaviour l xs)
      ∙ ap (λ g. g ++ queue_calls (queue_lines behaviour l xs))
      (queue_entries 0 (published_all (first_envelopes behaviour l)) (published_found (first_envelopes behaviour l))))
      ∙ (ap (total w) (seconds-append (tag 0 (published_all (first_envelopes behaviour l))) (queue_calls (queue_lines behaviour l xs)))
      ∙ (total-append w (seconds (tag 0 (published_all (first_envelopes behaviour l)))) (seconds (queue_calls (queue_lines behaviour l xs)))
      ∙ ap₂ (λ a b. a + b) (total-tag w 0 (published_all (first_envelopes behaviour l))) (lines_total w xs))))

  pub table_total : (w : TableAnswered → ℕ) (n : ℕ) (xs : List Step)
      → total w (seconds (answered_calls (table_log behaviour l n xs))) ≡ total (λ x. in_table w x.1) xs
  table_total w n xs =
      ap (λ g. total w (seconds g)) (calls_append (splits_of (round n)) (table_lines behaviour l xs)
      ∙ ap (λ g. g ++ answered_calls (table_lines behaviour l xs)) (calls_splits (round n)))
      ∙ rows_total w xs

  -- a step is a call of the core run, or a redelivery
  one_call : (a : Ask Envelope) (r : Reply Envelope) → calls_of (a, r) ≤ redelivers_one a + (length (core_call a r) + length (backend_call a r))
  one_call (to_queue queue.take) (from_queue None) = omega arith
  one_call (to_queue queue.take) (from_queue (Some e)) = omega arith
  one_call (to_queue (queue.publish e)) (from_queue x) = omega arith
  one_call (to_queue (queue.redeliver e)) (from_queue x) = omega arith
  one_call (to_queue c) r = omega arith
  one_call (to_table (table.store u o)) (from_table (table.was b)) = omega arith
  one_call (to_table (table.part g u)) (from_table (table.count i)) = omega arith
  one_call (to_table (table.read u)) (from_table (table.found x)) = omega arith
  one_call (to_table c) (from_table y) = omega arith
  one_call ack acked = omega arith
  one_call a r = omega arith

  one_again : (e : Envelope) (r : Reply Envelope) → calls_of (to_queue (queue.redeliver e), r) ≤ 1
  one_again e (from_queue x) = omega arith
  one_again e r = omega arith

  calls_are : (ys : List (AskedAndAnswered Envelope)) → total calls_of ys ≤ calls_made (scripts_of ys) + total (λ y. redelivers_one y.0) ys
  calls_are [] = omega arith
  calls_are (y ∷ ys) = go y.0 y.1 (calls_are ys)
    where
      go : (a : Ask Envelope) (r : Reply Envelope) → total calls_of ys ≤ calls_made (scripts_of ys) + total (λ y. redelivers_one y.0) ys
          → calls_of (a, r) + total calls_of ys ≤ calls_made (scripts_of ((a, r) ∷ ys)) + (redelivers_one a + total (λ y. redelivers_one y.0) ys)
      go (to_queue (queue.redeliver e)) r k = let h = one_again e r in omega (arith, h, k)
      go a r k =
          let h = one_call a r in
          let c = length-append (core_call a r) (core_calls (scripts_of ys)) in
          let b = length-append (backend_call a r) (backend_calls (scripts_of ys)) in
          omega (arith, h, k, c, b)

module _ (behaviour : Behaviour) (l : Line) (n : ℕ) (us : List ℕ) (xs : List Step) (t : ByTurns behaviour l n us xs) where
  abbrev R : Run behaviour l
  R = the_run behaviour l n us xs t

  abbrev Q : List (QueueAnswered Envelope)
  Q = seconds (queue_calls R.queue)

  abbrev T : ℕ
  T = count_line l

  -- ---- redeliveries

  abbrev again_total : ℕ
  again_total = redeliveries_in xs

  pub redelivers_few : total redelivering Q ≤ again_total
  redelivers_few =
      let opening = entries_by 0 (published_all (first_envelopes behaviour l)) in
      let lines = lines_total behaviour l redelivering xs in
      let first = none_opened (first_envelopes behaviour l) in
      let same : total redelivering Q ≡ total redelivering (published_all (first_envelopes behaviour l))
      + total (λ x. in_queue behaviour l redelivering x.1) xs = queue_split behaviour l redelivering n xs in
      let each = fewer xs in
      omega (arith, lines, first, same, each)
    where
      none_opened : (es : List Envelope) → total redelivering (published_all es) ≡ 0
      none_opened [] = refl
      none_opened (e ∷ es) = let r = none_opened es in omega (arith, r)

      one : (a : Ask Envelope) (r : Reply Envelope) → total redelivering (broker_call a r) ≤ redelivers_one a
      one (to_queue (queue.redeliver e)) (from_queue x) = omega arith
      one (to_queue (queue.redeliver e)) r = omega arith
      one (to_queue queue.take) (from_queue None) = omega arith
      one (to_queue c) (from_queue x) = omega arith
      one a r = omega arith

      fewer : (ys : List Step) → total (λ x. in_queue behaviour l redelivering x.1) ys ≤ redeliveries_in ys
      fewer [] = omega arith
      fewer (y ∷ ys) = let h = one y.1.0 y.1.1 in let r = fewer ys in omega (arith, h, r)

  pub fewer_calls : calls_in behaviour l xs ≤ of_a_run l (redeliveries_in xs)
  fewer_calls =
      let below : Each (λ (x : Step). x.0 ≤ n) xs = each_weaker (λ x w. w.1) xs (holds behaviour l n us xs t).workers in
      let again : AskedAndAnswered Envelope → ℕ = λ y. redelivers_one y.0 in
      let steps = total-seconds (calls_of behaviour l) xs ∙ total_by (calls_of behaviour l) n xs below in
      let agains = total-seconds again xs ∙ total_by again n xs below in
      let each = sum_to-le n (λ p. total (calls_of behaviour l) (by p xs)) (λ p. calls_made (R.core p) + total again (by p xs))
      (λ p. calls_are behaviour l (by p xs)) in
      let both = sum_to-both n (λ p. calls_made (R.core p)) (λ p. total again (by p xs)) in
      let same = same_sum n (λ p. calls_made (R.core p)) in
      let few = of_runs behaviour l t.plan R n in
      let some_again = redelivers_few in
      omega (arith, steps, agains, each, both, same, few, some_again)

  pub few_calls : calls_in behaviour l xs ≤ most_calls l (redeliveries_in xs)
  few_calls =
      let few = fewer_calls in
      let wide : (T + 5) * suc T ≡ T * suc T + 5 * suc T = add-mul T 5 (suc T) in
      let long : T * 1 ≤ T * suc T = mul-le-mul_left T (omega arith) in
      omega (arith, few, wide, long)
