-- What the promise of a run on threads refuses.
use Rattle.std.proofs.Common.{◌≡◌, ◌∙◌, ◌≤◌, ℕ, cond, List, [], ◌∷◌, ◌++◌, map, Some, None, refl, ap, subst, inl, inr, ◌⊎◌, arith}
use Rattle.std.proofs.lemmas.Bool.{eq-eqb}
use Rattle.canvas_task.specs.Apply.{Behaviour}
use Rattle.canvas_task.specs.declared.outcome.Outcome.{Outcome}
use Rattle.canvas_history.specs.History.{calls}
use Rattle.canvas_history.specs.Callers.{told}
use Rattle.canvas_semantics.specs.Bodies.{starts, bodies}
use Rattle.canvas_semantics.specs.Evaluation.{State}
use Rattle.canvas_semantics.specs.Line.{Line, count_line}
use Rattle.canvas_semantics.specs.States.{numbers_from}
use Rattle.canvas_history.specs.Lists.{In, total}
use Rattle.canvas_envelope.specs.declared.envelope.Envelope.{Envelope}
use Rattle.canvas_history.specs.Table.{part, count, results}
use Rattle.canvas_history.specs.Roster.{roster_of}
use Rattle.canvas_history.specs.Queue.{publish, queue_of}
use Rattle.canvas_runs.specs.Calls.{TableAnswered}
use Rattle.canvas_runs.specs.ProgramOrder.{ProgramOrder, published_in}
use Rattle.canvas_runs.proofs.Lists.Sums.{total-append}
use Rattle.canvas_engine.specs.Headline.{of_task, task_in, Headline}
use Rattle.canvas_engine.specs.declared.threads.records.Records.{Records}

absent : (f : ℕ → State) → ((k : ℕ) → f k ≡ None) → (ks : List ℕ) (o : Outcome) → In (Some o) (map f ks) → ⊥
absent f none [] o i = elim i [ ]
absent f none (k ∷ ks) o (inl e) = let both : ◌≡◌ {A = State} (Some o) None = e ∙ none k in cc
absent f none (k ∷ ks) o (inr i) = absent f none ks o i

-- an envelope of task k counts once
abbrev weight : ℕ → ℕ × Envelope → ℕ
weight k x = of_task k (task_in x.1)

weighs : (k p : ℕ) (e : Envelope) → task_in e ≡ Some k → weight k (p, e) ≡ 1
weighs k p e named = ap (of_task k) named ∙ ap (λ b. cond b 1 0) (eq-eqb k k refl)

left_over : (e : Envelope) → ◌≡◌ {A = List Envelope} (e ∷ []) [] → ⊥
left_over e q = cc

module _ (behaviour : Behaviour) (l : Line) (n : ℕ) (rows : List State) (r : Records) (did : ℕ → ProgramOrder)
    (h : Headline behaviour l n rows r did) where
  -- a run of a plan with a task that publishes nothing, with any stores
  pub none_idle : (k : ℕ) → In k (starts l) → published_in (told r.pass) ≡ [] → ⊥
  none_idle k i none = let one : total (weight k) [] ≡ 1 = subst (λ xs. total (weight k) xs ≡ 1) none (h.started k i) in absurd (omega (arith, one))

  -- two messages of one task, as of a body that is published twice
  pub none_twice : (k p q : ℕ) (e f : Envelope) (xs ys zs : List (ℕ × Envelope)) → published_in (told r.pass) ≡ xs ++ (p, e) ∷ (ys ++ (q, f) ∷ zs)
      → task_in e ≡ Some k → task_in f ≡ Some k → ⊥
  none_twice k p q e f xs ys zs is a b =
      let least : total (weight k) (xs ++ (p, e) ∷ (ys ++ (q, f) ∷ zs)) ≤ 1 = subst (λ w. total (weight k) w ≤ 1) is (h.once k) in
      absurd (omega (
        arith,
        least,
        total-append (weight k) xs ((p, e) ∷ (ys ++ (q, f) ∷ zs)),
        total-append (weight k) ys ((q, f) ∷ zs),
        weighs k p e a,
        weighs k q f b,
      ))

  -- a body that is published by a worker that had not returned a part of its header: another worker, or too early
  pub none_early : (g k p : ℕ) (e : Envelope) (before after : ProgramOrder) → In {X = ℕ × ℕ} (g, k) (bodies l) → did p ≡ before ++ inl e ∷ after
      → task_in e ≡ Some k
      → ((t m : ℕ) → In {X = Envelope ⊎ TableAnswered} (inr (part g t, count m)) before → ⊥) → ⊥
  none_early g k p e before after i is named none = let c = h.body g k p e before after i is named in none c.0 c.1 c.2

  -- a message that nobody takes
  pub none_untaken : (p : ℕ) (e : Envelope) → told r.pass ≡ calls p (publish e) None ∷ [] → ⊥
  none_untaken p e is = left_over e (subst (λ log. queue_of log ≡ []) is h.drained)

  -- an outcome that no call stored
  pub none_unstored : (o : Outcome) → r.seat.seen ≡ [] → In (Some o) rows → ⊥
  none_unstored o none i =
      absent (results (roster_of l) []).outcomes (λ k. refl) (numbers_from 1 (count_line l)) o
      (subst (λ ss. In (Some o) ss) (h.held ∙ ap (λ log. map (results (roster_of l) log).outcomes (numbers_from 1 (count_line l))) none) i)
