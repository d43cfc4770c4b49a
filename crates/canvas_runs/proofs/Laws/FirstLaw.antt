-- The first part of the law, over the product's histories.
use Rattle.std.proofs.Common.{⊎_elim, ◌≡◌, ◌⊎◌, ℕ, ◌+◌, ◌≤◌, cond, eqb, map, [], Option, Some, None, refl, sym, ap, subst, ◌∙◌, inl, inr, arith}
use Rattle.canvas_task.specs.Apply.{Behaviour}
use Rattle.canvas_task.specs.declared.outcome.Outcome.{Outcome}
use Rattle.canvas_semantics.specs.Evaluation as eval
use Rattle.canvas_semantics.specs.Line.{Line, tree_of}
use Rattle.canvas_rewrite.specs.Planned.{IsPlan}
use Rattle.canvas_rewrite.proofs.Members.{plan_apart}
use Rattle.canvas_envelope.specs.Content.{Content}
use Rattle.canvas_history.specs.Lists.{In, total, seconds}
use Rattle.canvas_effects.specs.Events.{start}
use Rattle.canvas_effects.specs.Flowing.{run, no_input}
use Rattle.canvas_envelope.specs.declared.envelope.Envelope.{Envelope}
use Rattle.canvas_history.specs.declared.stored.Stored.{Stored}
use Rattle.canvas_history.specs.declared.stored.Stored.TheVariants.{First}
use Rattle.canvas_history.specs.Table as table
use Rattle.canvas_history.specs.Roster.{roster_of}
use Rattle.canvas_history.specs.Answers.{answered_calls}
use Rattle.canvas_history.specs.Queue as queue
use Rattle.canvas_runs.specs.Book.{book_of}
use Rattle.canvas_runs.specs.Calls.{QueueAnswered, TableAnswered}
use Rattle.canvas_runs.specs.Law.{its_state, IsRunMessage, IsPart, of_task, publishes_one, agains_one_of, firsts_one, agains_one, FirstPart}
use Rattle.canvas_runs.specs.Logs.{queue_calls}
use Rattle.canvas_runs.specs.Run.{Run, published_all}
use Rattle.canvas_runs.specs.Worker.{sealed, opened}
use Rattle.canvas_runs.proofs.Objects.Bridges.{queue_is, table_is, table_starts, callers_below, was_stored}
use Rattle.canvas_runs.proofs.Objects.CallsOf.{seconds_in, call_in, queue_call_in}
use Rattle.canvas_runs.proofs.Plans.Canvas.{total-same}
use Rattle.canvas_runs.proofs.Plans.Evaluation as evaluation
use Rattle.canvas_runs.proofs.Laws.Facts as facts
use Rattle.canvas_runs.proofs.Laws.Facts.{X, form, Does, order, value, p}
use Rattle.canvas_runs.proofs.Laws.FactsOnce.{once, keeping}
use Rattle.canvas_runs.proofs.Plans.Messages.{nowhere}
use Rattle.canvas_runs.proofs.Objects.Histories.{GoodPublish, GoodAgain, each_seconds}
use Rattle.canvas_runs.proofs.Runs.Meaning.{Has}
use Rattle.canvas_runs.proofs.Runs.OnceEach.{published_once, publishes_task, of_opened, one_first}
use Rattle.canvas_runs.proofs.Runs.Right.{publishes_right, agains_right, IsRunSealed, CallRight, calls_right}
use Rattle.canvas_runs.proofs.Runs.Run as inner
use Rattle.canvas_runs.proofs.Plans.StateRows as rows
use Rattle.canvas_runs.proofs.Objects.Accords.{accords_behind}
use Rattle.canvas_runs.proofs.Runs.StoredOnce.{agains_task, agains_few}
use Rattle.canvas_runs.proofs.Lists.Words.{each_weaker, in_each}

module _ (behaviour : Behaviour) (l : Line) (plan : IsPlan l) where
  its_rows : rows.kept (eval.eval behaviour (tree_of l) eval.nothing).rows ≡ rows.stored (evaluation.evaluated behaviour l)
  its_rows = rows.rows_same behaviour (p behaviour l plan).members l (run no_input) nowhere 0 start 1 (p behaviour l plan).limit (p behaviour l plan).numbered

  -- an outcome of the evaluation is the task's state in the tree
  pub has_state : (t : ℕ) (o : Outcome) → Has (X behaviour l plan) (Does behaviour l plan) t o → its_state behaviour l t ≡ Some o
  has_state t o (v, i) =
      rows.look behaviour 1 (eval.eval behaviour (tree_of l) eval.nothing).rows (p behaviour l plan).limit
      (rows.line_up behaviour (p behaviour l plan).members l eval.nothing 1 (p behaviour l plan).limit (p behaviour l plan).numbered) t o
      (subst (In (t, o)) (sym its_rows) (rows.in_stored behaviour v t o (evaluation.evaluated behaviour l) (facts.stored behaviour l plan v t o i)))

  pub state_has : (t : ℕ) (o : Outcome) → its_state behaviour l t ≡ Some o → Has (X behaviour l plan) (Does behaviour l plan) t o
  state_has t o e =
      let r = rows.from_stored behaviour t o (evaluation.evaluated behaviour l)
      (subst (In (t, o)) its_rows (rows.looked behaviour (eval.eval behaviour (tree_of l) eval.nothing).rows t o e)) in
      (r.0, facts.does_on behaviour l plan r.0 _ r.1)

  module _ (r : Run behaviour l) where
    abbrev pub callers : ℕ
    callers = total (λ e. e.0) (queue_calls r.queue) + total (λ e. e.0) (answered_calls r.table)

    abbrev pub inner_run : inner.Run (X behaviour l plan) (form behaviour l plan)
    inner_run = record {
      workers = callers;
      broker = queue_calls r.queue;
      backend = answered_calls r.table;
      core = r.core;
      opening = r.opening;
      unsent = r.unsent;
      closing = r.closing;
      opens = r.opens;
      opens_back = r.opens_back;
      closes = r.closes;
      broker_callers = each_weaker (λ e h. omega arith) (queue_calls r.queue) (callers_below (queue_calls r.queue));
      backend_callers = each_weaker (λ e h. omega arith) (answered_calls r.table) (callers_below (answered_calls r.table));
      queue = queue_is [] r.queue [] [] refl (λ c e i. i) r.queue_legal;
      table = table_is l (plan_apart l plan) [] r.table table.no_results [] [] refl (table_starts l (plan_apart l plan)) r.table_legal;
      is_core = r.is_core;
      follows = λ p. accords_behind (cond (eqb p 0) (published_all (map sealed r.opening)) []) (r.core p) (r.follows p);
      keeps = r.keeps;
    }

    call_right : (c : TableAnswered) → In c (seconds (answered_calls r.table))
        → CallRight (X behaviour l plan) (form behaviour l plan) (Does behaviour l plan) (order behaviour l plan) (value behaviour l plan) inner_run c
    call_right c i = in_each (CallRight (X behaviour l plan) (form behaviour l plan) (Does behaviour l plan) (order behaviour l plan)
        (value behaviour l plan) inner_run) (seconds (answered_calls r.table))
        (calls_right (X behaviour l plan) (form behaviour l plan) (Does behaviour l plan) (order behaviour l plan) (value behaviour l plan) inner_run) c i

    pub stored_right : (t : ℕ) (o : Outcome) (b : Stored) → In (table.store t o, table.was b) (seconds (answered_calls r.table))
        → Has (X behaviour l plan) (Does behaviour l plan) t o
    stored_right t o b i = call_right (table.store t o, table.was b) i

    pub returned_right : (g t n : ℕ) → In (table.part g t, table.count n) (seconds (answered_calls r.table)) → IsPart behaviour l g t
    returned_right g t n i = let c = call_right (table.part g t, table.count n) i in (c.0, c.1.0, c.1.1)

    rows_by : (t : ℕ) (s : eval.State) → (table.results (roster_of l) r.table).outcomes t ≡ s → ((table.results (roster_of l) r.table).outcomes t ≡ None)
        ⊎ ((table.results (roster_of l) r.table).outcomes t ≡ its_state behaviour l t)
    rows_by t None e = inl e
    rows_by t (Some o) e =
        ⊎_elim (λ n. absurd (let bad : ◌≡◌ {A = eval.State} None (Some o) = n in cc)) (λ i. inr (e ∙ sym (has_state t o (stored_right t o First i))))
        (was_stored l (plan_apart l plan) t o [] r.table table.no_results refl r.table_legal e)

    pub run_sealed : (e : Envelope) (a : Option Envelope) → In (queue.publish e, a) (seconds (queue_calls r.queue)) → (c : Content) × (e ≡ sealed c)
        × (opened (book_of l) e ≡ Some c)
        × IsRunMessage behaviour l c
    run_sealed e a i =
        let good = in_each (GoodPublish
        (IsRunSealed (X behaviour l plan) (form behaviour l plan) (Does behaviour l plan) (order behaviour l plan) (value behaviour l plan) inner_run))
        (seconds (queue_calls r.queue))
        (each_seconds (GoodPublish
        (IsRunSealed (X behaviour l plan) (form behaviour l plan) (Does behaviour l plan) (order behaviour l plan) (value behaviour l plan) inner_run))
        (queue_calls r.queue)
        (publishes_right (X behaviour l plan) (form behaviour l plan) (Does behaviour l plan) (order behaviour l plan) (value behaviour l plan) inner_run))
        (queue.publish e, a) i in
        (good.0, good.1, ap (opened (book_of l)) good.1 ∙ (order behaviour l plan).opened good.0 good.3 good.2, good.4)

    opened_weight : (k : ℕ) (x : Option Content) → of_opened (X behaviour l plan) k x ≡ of_task l k x
    opened_weight k None = refl
    opened_weight k (Some c) = refl

    publish_weight : (k : ℕ) (c : QueueAnswered Envelope) → publishes_task (X behaviour l plan) k c ≡ publishes_one l k c
    publish_weight k (queue.publish e, r) = opened_weight k (opened (book_of l) e)
    publish_weight k c = refl

    pub again_weight : (k : ℕ) (c : QueueAnswered Envelope) → agains_task (X behaviour l plan) k c ≡ agains_one_of l k c
    again_weight k (queue.redeliver e, r) = opened_weight k (opened (book_of l) e)
    again_weight k c = refl

    pub run_again : (e : Envelope) (a : Option Envelope) → In (queue.redeliver e, a) (seconds (queue_calls r.queue)) → (c : Content) × (e ≡ sealed c)
        × (opened (book_of l) e ≡ Some c)
        × IsRunMessage behaviour l c
    run_again e a i =
        let good = in_each (GoodAgain
        (IsRunSealed (X behaviour l plan) (form behaviour l plan) (Does behaviour l plan) (order behaviour l plan) (value behaviour l plan) inner_run))
        (seconds (queue_calls r.queue))
        (agains_right (X behaviour l plan) (form behaviour l plan) (Does behaviour l plan) (order behaviour l plan) (value behaviour l plan) inner_run)
        (queue.redeliver e, a) i in
        (good.0, good.1, ap (opened (book_of l)) good.1 ∙ (order behaviour l plan).opened good.0 good.3 good.2, good.4)

    -- how often each store answers
    firsts_few : (k : ℕ) → total (firsts_one k) (seconds (answered_calls r.table)) ≤ 1
    firsts_few k = one_first k [] [] (seconds (answered_calls r.table)) inner_run.table

    again_few : (k : ℕ) → total (agains_one k) (seconds (answered_calls r.table)) ≤ total (agains_one_of l k) (seconds (queue_calls r.queue))
    again_few k =
        let few = agains_few (X behaviour l plan) (form behaviour l plan) (Does behaviour l plan) (order behaviour l plan) (value behaviour l plan)
        (once behaviour l plan) (keeping behaviour l plan) inner_run k in
        let b = total-same (agains_task (X behaviour l plan) k) (agains_one_of l k) (again_weight k) (seconds (queue_calls r.queue)) in
        omega arith

    pub first_part : FirstPart behaviour l r
    first_part = record {
      stored = λ q t o a i. has_state t o (stored_right t o a (seconds_in (answered_calls r.table) _ (call_in r.table q (table.store t o) (table.was a) i)));
      stored_once = firsts_few;
      stored_again = again_few;
      redelivered = λ q e a i. run_again e a (seconds_in (queue_calls r.queue) _ (queue_call_in r.queue q (queue.redeliver e) a refl i));
      rows = λ t. rows_by t ((table.results (roster_of l) r.table).outcomes t) refl;
      published = λ q e a i. run_sealed e a (seconds_in (queue_calls r.queue) _ (queue_call_in r.queue q (queue.publish e) a refl i));
      published_once = λ k. subst (λ n. n ≤ 1)
          (total-same (publishes_task (X behaviour l plan) k) (publishes_one l k) (publish_weight k) (seconds (queue_calls r.queue)))
          (published_once (X behaviour l plan) (form behaviour l plan) (Does behaviour l plan) (order behaviour l plan) (value behaviour l plan)
          (once behaviour l plan) inner_run k);
      returned = λ q g t n i. returned_right g t n (seconds_in (answered_calls r.table) _ (call_in r.table q (table.part g t) (table.count n) i));
    }
