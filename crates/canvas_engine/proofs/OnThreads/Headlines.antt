-- The promise of a run on threads follows from what its records show.
use Rattle.std.proofs.Common.{◌≡◌, ◌∙◌, ◌≤◌, ◌+◌, ℕ, suc, List, [], ◌∷◌, ◌++◌, map, length, Option, Some, None, Result, Ok, Err, IfOk, refl, sym, ap, subst, inl, inr, arith}
use Rattle.std.specs.Prelude.{is_some}
use Rattle.canvas_task.specs.Apply.{Behaviour}
use Rattle.canvas_history.specs.Answers.{answered_calls}
use Rattle.canvas_history.specs.History.{split, join, calls}
use Rattle.canvas_history.specs.Callers.{told}
use Rattle.canvas_semantics.specs.Bodies.{bodies}
use Rattle.canvas_semantics.specs.Evaluation.{State, state_of, eval, nothing}
use Rattle.canvas_semantics.specs.Line.{Line, count_line, tree_of}
use Rattle.canvas_semantics.specs.States.{numbers_from}
use Rattle.canvas_semantics.proofs.Numbered.{count_elements}
use Rattle.canvas_rewrite.specs.Planned.{IsPlan}
use Rattle.canvas_history.specs.Lists.{In, by}
use Rattle.canvas_envelope.specs.Content.{Content, number_of}
use Rattle.canvas_envelope.specs.declared.envelope.Envelope.{Envelope}
use Rattle.canvas_effects.specs.Events.{start}
use Rattle.canvas_history.specs.Table.{results}
use Rattle.canvas_history.specs.Roster.{roster_of}
use Rattle.canvas_history.specs.Queue.{QueueEntry, publish, take, redeliver, queue_of}
use Rattle.canvas_runs.specs.Book.{book_of}
use Rattle.canvas_runs.specs.ProgramOrder.{ProgramOrder, sent_in, published_in, program_order}
use Rattle.canvas_runs.specs.Law as law
use Rattle.canvas_runs.specs.Law.{SecondPart}
use Rattle.canvas_runs.specs.Worker.{opened}
use Rattle.canvas_runs.proofs.Laws.Bodies.{start_sends}
use Rattle.canvas_runs.proofs.Laws.ProgramOrder.{order_sends, order_calls, completed_before}
use Rattle.canvas_runs.proofs.Laws.SecondLaw.{second_part}
use Rattle.canvas_runs.specs.CallerRuns.{numbers_along}
use Rattle.canvas_engine.specs.Evidence.{IsRun}
use Rattle.canvas_engine.specs.Headline.{of_task, publications, Headline}
use Rattle.canvas_engine.specs.declared.threads.records.Records.{Records}
use Rattle.canvas_report.specs.declared.report.Report.{Report}
use Rattle.canvas_engine.proofs.OnThreads.EnvelopeTasks.{opened_names}
use Rattle.canvas_runs.proofs.Laws.Causes.{by_in}

along : {X : Type 0} (k : ℕ) (xs : List X) → numbers_along k xs ≡ numbers_from k (length xs)
along k [] = refl
along k (x ∷ xs) = ap (λ ns. k ∷ ns) (along (suc k) xs)

none_more : (n : ℕ) → n ≡ 0 + n
none_more n = omega arith

same_rows : (f g : ℕ → State) → ((k : ℕ) → f k ≡ g k) → (ks : List ℕ) → map f ks ≡ map g ks
same_rows f g same [] = refl
same_rows f g same (k ∷ ks) = ap (λ s. s ∷ map f ks) (same k) ∙ ap (λ ss. g k ∷ ss) (same_rows f g same ks)

same_number : (j k : ℕ) → ◌≡◌ {A = Option ℕ} (Some j) (Some k) → j ≡ k
same_number j k e = cc

-- ---- what is published

-- the entry that publishes it
entry_of : (p : ℕ) (e : Envelope) (es : List (QueueEntry Envelope)) → In {X = ℕ × Envelope} (p, e) (published_in es)
    → (a : Option Envelope) × In (calls p (publish e) a) es
entry_of p e [] i = elim i [ ]
entry_of p e (split q t ∷ es) i = let r = entry_of p e es i in (r.0, inr r.1)
entry_of p e (join q t ∷ es) i = let r = entry_of p e es i in (r.0, inr r.1)
entry_of p e (calls q take a ∷ es) i = let r = entry_of p e es i in (r.0, inr r.1)
entry_of p e (calls q (redeliver x) a ∷ es) i = let r = entry_of p e es i in (r.0, inr r.1)
entry_of p e (calls q (publish x) a ∷ es) (inl s) = (a, inl (λ j. calls (s j).0 (publish (s j).1) a))
entry_of p e (calls q (publish x) a ∷ es) (inr i) = let r = entry_of p e es i in (r.0, inr r.1)

-- each envelope in a course is sent in it
sent_there : (before : ProgramOrder) (e : Envelope) (after : ProgramOrder) → In e (sent_in (before ++ inl e ∷ after))
sent_there [] e after = inl refl
sent_there (inl x ∷ before) e after = inr (sent_there before e after)
sent_there (inr c ∷ before) e after = sent_there before e after

module _ (l : Line) where
  -- each envelope that these entries publish opens as a message
  abbrev Opens : List (QueueEntry Envelope) → Type 0
  Opens es =
      (p : ℕ) (e : Envelope) (a : Option Envelope) → In (calls p (publish e) a) es → (c : Content) × (opened (book_of l) e ≡ Some c)

  -- so the messages of a task are counted by the task that the envelope names
  same_count : (k : ℕ) (es : List (QueueEntry Envelope)) → Opens es → publications k es ≡ law.publications l k es
  same_count k [] f = refl
  same_count k (split p q ∷ es) f = same_count k es (λ c e a i. f c e a (inr i))
  same_count k (join p q ∷ es) f = same_count k es (λ c e a i. f c e a (inr i))
  same_count k (calls p take None ∷ es) f = same_count k es (λ c e a i. f c e a (inr i))
  same_count k (calls p take (Some x) ∷ es) f = same_count k es (λ c e a i. f c e a (inr i)) ∙ none_more (law.publications l k es)
  same_count k (calls p (redeliver x) r ∷ es) f = same_count k es (λ c e a i. f c e a (inr i)) ∙ none_more (law.publications l k es)
  same_count k (calls p (publish e) a ∷ es) f =
      let h = f p e a (inl refl) in
      ap (λ t. of_task k t + publications k es) (opened_names (book_of l) e h.0 h.1)
      ∙ (ap (λ o. law.of_task l k o + publications k es) (sym h.1)
      ∙ ap (λ m. law.of_task l k (opened (book_of l) e) + m) (same_count k es (λ c e a i. f c e a (inr i))))

pub headline : (behaviour : Behaviour) (l : Line) (n : ℕ) (rows : List State) (r : Records) → IsPlan l → (h : IsRun behaviour l n rows r)
    → Headline behaviour l n rows r (program_order h.run)
headline behaviour l n rows r plan h =
    let numbers = along 1 h.ran.to.ran.callers ∙ ap (λ m. numbers_from 1 m) h.workers in
    let second : SecondPart behaviour l h.run = second_part behaviour l plan h.run h.closed in
    let its : ℕ → State = λ k. state_of k (eval behaviour (tree_of l) nothing).rows in
    let opens : Opens l (told r.pass) = λ p e a i. let q = h.by_cause p e a i in (q.0, q.3) in
    let count : (k : ℕ) → publications k (told r.pass) ≡ law.publications l k (told r.pass) = λ k. same_count l k (told r.pass) opens in
    let sent : (p : ℕ) → sent_in (program_order h.run p) ≡ by p (published_in (told r.pass)) =
    λ p. order_sends behaviour l plan h.run p ∙ ap (λ log. by p (published_in log)) h.queue in
    record {
      are = h.are;
      objects = h.objects;
      queue_legal = h.of_broker.legal;
      queue_callers = (h.of_broker.names ∙ numbers, h.of_broker.sole);
      drained = subst (λ log. queue_of log ≡ []) h.queue h.closed.drained;
      table_legal = h.of_backend.legal;
      table_callers = (h.of_backend.names ∙ numbers, h.of_backend.sole);
      held = h.are
          ∙ (ap (λ m. map its (numbers_from 1 m)) (count_elements l)
          ∙ same_rows its (results (roster_of l) r.seat.seen).outcomes
          (λ k. sym (ap (λ log. (results (roster_of l) log).outcomes k) (sym h.table) ∙ second.rows k)) (numbers_from 1 (count_line l)));
      sent = sent;
      called = λ p. order_calls behaviour l plan h.run p ∙ ap (λ log. by p (answered_calls log)) h.table;
      named = λ x i. let a = entry_of x.0 x.1 (told r.pass) i in let q = opens x.0 x.1 a.0 a.1 in ap is_some (opened_names (book_of l) x.1 q.0 q.1);
      once = λ k. subst (λ m. m ≤ 1) (sym (count k)) (h.once k);
      started = λ k i.
          let s = start_sends behaviour l plan k i in
          count k ∙ (ap (λ log. law.publications l k log) (sym h.queue)
          ∙ (ap (λ j. law.publications l j h.run.queue) (sym s.1) ∙ second.published s.0 (start, s.2)));
      body = λ g k p e before after j is named.
          let there : In e (by p (published_in (told r.pass))) = subst (λ es. In e es) (ap sent_in (sym is) ∙ sent p) (sent_there before e after) in
          let a = entry_of p e (told r.pass) (by_in p e (published_in (told r.pass)) there) in
          let q = h.by_cause p e a.0 a.1 in
          let same : number_of q.0.own ≡ k = same_number (number_of q.0.own) k (sym (opened_names (book_of l) e q.0 q.3) ∙ named) in
          completed_before behaviour l plan h.run g p e before after q.0 q.1 is q.3 q.4
          (subst (λ m. In {X = ℕ × ℕ} (g, m) (bodies l)) (sym same) j);
    }

pub headline_ok : {E : Type 0} (behaviour : Behaviour) (l : Line) (n : ℕ) (x : Result (Report × Records) E) → IsPlan l
    → IfOk x (λ r. IsRun behaviour l n r.0.rows r.1)
    → IfOk x (λ r. (ran : IsRun behaviour l n r.0.rows r.1) × Headline behaviour l n r.0.rows r.1 (program_order ran.run))
headline_ok behaviour l n (Ok r) plan h = (h, headline behaviour l n r.0.rows r.1 plan h)
headline_ok behaviour l n (Err e) plan h = tt
