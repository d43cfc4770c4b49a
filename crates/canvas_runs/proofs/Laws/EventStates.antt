-- The states by events are those of the tree. Each outcome that is stored is that of a task that is
-- run, by its running, or a failure by another event.
use Rattle.std.proofs.Common.{◌≡◌, ◌⊎◌, ⊎_elim, ℕ, ◌∷◌, ◌++◌, Some, refl, sym, ap, subst, ◌∙◌, inl, inr}
use Rattle.canvas_task.specs.Apply.{Behaviour}
use Rattle.canvas_task.specs.declared.outcome.Fault.{Fault}
use Rattle.canvas_task.specs.declared.outcome.Outcome.{Outcome}
use Rattle.canvas_task.specs.declared.outcome.Outcome.TheVariants.{Success, Failure}
use Rattle.canvas_semantics.specs.Line.{Line, stop, step, group_end, chord_end, Lines, no_lines, and_line, no_of}
use Rattle.canvas_semantics.specs.PlacedLine.{PPlace, p_nowhere, p_group, p_chord}
use Rattle.canvas_semantics.specs.Tree.{Task, task, Tasks, no_tasks, and_task}
use Rattle.canvas_rewrite.specs.FrozenView.{PCarried}
use Rattle.canvas_rewrite.specs.Planned.{IsPlan}
use Rattle.canvas_envelope.specs.Content.{Content, number_of}
use Rattle.canvas_effects.specs.Effects.{outcome_of, part_of}
use Rattle.canvas_effects.specs.Events.{Event, start, running, end_of_line, completion, EventJobs, labelled, DoesIn, evaluated, chosen, input_of_success, body_event, header_place, group_flow, outs, outcome_with, message_of, errbacks_in, ran, ran_all, events_in_file, items_all}
use Rattle.canvas_history.specs.Lists.{In}
use Rattle.canvas_effects.specs.Flowing.{Input, no_input, id_input, LineFlow, run, skips, raise, after_outcome}
use Rattle.canvas_effects.specs.Job.{Job, store, publish, part}
use Rattle.canvas_runs.specs.EventLaws.{IsStored, IsRunWith, IsNotRun, IsFailedUnrun, EventStates}
use Rattle.canvas_runs.specs.Law.{its_state}
use Rattle.canvas_runs.proofs.Laws.Facts.{value}
use Rattle.canvas_runs.proofs.Laws.FactsOnce.{keeping, one_outcome}
use Rattle.canvas_runs.proofs.Laws.FirstLaw.{has_state, state_has}
use Rattle.canvas_runs.proofs.Plans.Trees.{in_append_cases}
use Rattle.canvas_runs.proofs.Lists.Words.{in_left, in_right}

abbrev AJob : Type 0
AJob = Job Content PCarried Outcome

-- an event that isn't a task's running
abbrev Other : Event → Type 0
Other start = Unit {0}
Other (running k) = ⊥
Other (end_of_line k) = Unit {0}
Other (completion g) = Unit {0}

other_body : (x : LineFlow) (ms : Lines) (g : ℕ) (v : Event) → Other v → Other (body_event x ms g v)
other_body (run x) no_lines g v h = h
other_body (run x) (and_line m ms) g v h = tt
other_body (skips f) ms g v h = h
other_body (raise f) ms g v h = h

apart : {c : Content} {t : ℕ} {o : Outcome} → ◌≡◌ {A = AJob} (store t o) (publish c) → ⊥
apart e = cc

module _ (behaviour : Behaviour) where
  -- where a store comes from
  abbrev Comes : EventJobs → Event → ℕ → Outcome → Type 0
  Comes all v t o =
      ((w : Event) × (c : Content) × In (w, publish c) all × (number_of c.own ≡ t) × (outcome_of behaviour c ≡ o))
      ⊎ (Other v × (f : Fault) × (o ≡ Failure f))

  abbrev Sourced : EventJobs → EventJobs → Type 0
  Sourced is all = (v : Event) (t : ℕ) (o : Outcome) → In (v, store t o) is → Comes all v t o

  comes_more : (is all : EventJobs) → ((x : Event × AJob) → In x is → In x all) → (v : Event) (t : ℕ) (o : Outcome) → Comes is v t o → Comes all v t o
  comes_more is all f v t o (inl (w, c, i, e, h)) = inl (w, c, f (w, publish c) i, e, h)
  comes_more is all f v t o (inr h) = inr h

  sourced_more : (is js all : EventJobs) → ((x : Event × AJob) → In x js → In x all) → Sourced is js → Sourced is all
  sourced_more is js all f s v t o i = comes_more js all f v t o (s v t o i)

  sourced_both : (xs ys all : EventJobs) → Sourced xs all → Sourced ys all → Sourced (xs ++ ys) all
  sourced_both xs ys all f g v t o i = ⊎_elim (λ a. f v t o a) (λ b. g v t o b) (in_append_cases xs ys (v, store t o) i)

  sourced_append : (xs ys : EventJobs) → Sourced xs xs → Sourced ys ys → Sourced (xs ++ ys) (xs ++ ys)
  sourced_append xs ys f g =
      sourced_both xs ys (xs ++ ys) (sourced_more xs xs (xs ++ ys) (λ x i. in_left xs ys x i) f) (sourced_more ys ys (xs ++ ys) (λ x i. in_right xs ys x i) g)

  sourced_fails : (v : Event) (k : ℕ) (f : Fault) (is : EventJobs) → Other v → Sourced is is
      → Sourced ((v, store k (Failure f)) ∷ is) ((v, store k (Failure f)) ∷ is)
  sourced_fails v k f is h s w t o (inl e) =
      let jobs : ◌≡◌ {A = AJob} (store t o) (store k (Failure f)) = ap (λ p. p.1) e in
      let out : o ≡ Failure f = cc in
      inr (subst Other (sym (ap (λ p. p.0) e)) h, f, out)
  sourced_fails v k f is h s w t o (inr i) = comes_more is ((v, store k (Failure f)) ∷ is) (λ x j. inr j) w t o (s w t o i)

  sourced_chosen : (o : Outcome) (xs ys : EventJobs) → Sourced xs xs → Sourced ys ys → Sourced (chosen o xs ys) (chosen o xs ys)
  sourced_chosen (Success n) xs ys f g = f
  sourced_chosen (Failure e) xs ys f g = g

  sourced_run : (k : ℕ) (v : Event) (c : Content) (o : Outcome) (is : EventJobs) → number_of c.own ≡ k → outcome_of behaviour c ≡ o → Sourced is is
      → Sourced ((v, publish c) ∷ (running k, store k o) ∷ is) ((v, publish c) ∷ (running k, store k o) ∷ is)
  sourced_run k v c o is its_no out s w t q (inl e) = absurd (apart (ap (λ p. p.1) e))
  sourced_run k v c o is its_no out s w t q (inr (inl e)) =
      let jobs : ◌≡◌ {A = AJob} (store t q) (store k o) = ap (λ p. p.1) e in
      let task_same : t ≡ k = cc in
      let out_same : q ≡ o = cc in
      inl (v, c, inl refl, its_no ∙ sym task_same, out ∙ sym out_same)
  sourced_run k v c o is its_no out s w t q (inr (inr i)) = comes_more is ((v, publish c) ∷ (running k, store k o) ∷ is) (λ x j. inr (inr j)) w t q (s w t q i)

  mutual
    ran_sourced : (t : Task) (x : Input) (v : Event) (rest : Line) (p : PPlace) → Sourced (ran behaviour t x v rest p) (ran behaviour t x v rest p)
    ran_sourced (task k call links errbacks) x v rest p =
        let c : Content = message_of (task k call links errbacks) x v rest p in
        let o : Outcome = outcome_of behaviour c in
        sourced_run k v c o _ refl refl
        (sourced_chosen o _ _ (ran_all_sourced links (input_of_success o) (end_of_line k)) (ran_all_sourced errbacks (id_input k) (end_of_line k)))

    ran_all_sourced : (ts : Tasks) (x : Input) (v : Event) → Sourced (ran_all behaviour ts x v) (ran_all behaviour ts x v)
    ran_all_sourced no_tasks x v = λ w t o i. elim i [ ]
    ran_all_sourced (and_task t ts) x v =
        sourced_append (ran behaviour t x v stop p_nowhere) (ran_all behaviour ts x v) (ran_sourced t x v stop p_nowhere) (ran_all_sourced ts x v)

  stop_sourced : (p : PPlace) (k : ℕ) (v : Event) (all : EventJobs) → Sourced (labelled v (part_of p k)) all
  stop_sourced p_nowhere k v all w t o i = elim i [ ]
  stop_sourced (p_group g) k v all w t o i = elim i [ ]
  stop_sourced (p_chord g n b) k v all w t o (inl e) =
      absurd (let jobs : ◌≡◌ {A = AJob} (store t o) (part g k (record { size = n; body = b })) = ap (λ p. p.1) e in cc)
  stop_sourced (p_chord g n b) k v all w t o (inr i) = elim i [ ]

  mutual
    events_sourced : (l : Line) (x : LineFlow) (p : PPlace) (k : ℕ) (v : Event) → Other v
        → Sourced (events_in_file behaviour l x p k v) (events_in_file behaviour l x p k v)
    events_sourced stop x p k v h = stop_sourced p k v _
    events_sourced (step t rest) (run x) p k v h =
        sourced_append (ran behaviour t x v rest p)
        (events_in_file behaviour rest (after_outcome (outcome_with behaviour t x)) p (no_of t) (end_of_line (no_of t)))
        (ran_sourced t x v rest p) (events_sourced rest (after_outcome (outcome_with behaviour t x)) p (no_of t) (end_of_line (no_of t)) tt)
    events_sourced (step t rest) (skips f) p k v h = sourced_fails v (no_of t) f _ h (events_sourced rest (skips f) p (no_of t) v h)
    events_sourced (step t rest) (raise f) p k v h =
        sourced_fails v (no_of t) f _ h
        (sourced_append (ran_all behaviour (errbacks_in t) (id_input (no_of t)) v) (events_in_file behaviour rest (skips f) p (no_of t) v)
        (ran_all_sourced (errbacks_in t) (id_input (no_of t)) v) (events_sourced rest (skips f) p (no_of t) v h))
    events_sourced (group_end g ms) x p k v h = all_sourced ms x (p_group g) v h
    events_sourced (chord_end g ms body) x p k v h =
        sourced_append (items_all behaviour ms x (header_place x g ms body p) v)
        (events_in_file behaviour body (group_flow x (outs behaviour ms x)) p 0 (body_event x ms g v))
        (all_sourced ms x (header_place x g ms body p) v h)
        (events_sourced body (group_flow x (outs behaviour ms x)) p 0 (body_event x ms g v) (other_body x ms g v h))

    all_sourced : (ms : Lines) (x : LineFlow) (p : PPlace) (v : Event) → Other v → Sourced (items_all behaviour ms x p v) (items_all behaviour ms x p v)
    all_sourced no_lines x p v h = λ w t o i. elim i [ ]
    all_sourced (and_line m ms) x p v h =
        sourced_append (events_in_file behaviour m x p 0 v) (items_all behaviour ms x p v) (events_sourced m x p 0 v h) (all_sourced ms x p v h)

  comes_by : (l : Line) → Sourced (evaluated behaviour l) (evaluated behaviour l)
  comes_by l = events_sourced l (run no_input) p_nowhere 0 start tt

module _ (behaviour : Behaviour) (l : Line) (plan : IsPlan l) where
  by_one_event : (t : ℕ) (o q : Outcome) (v w : Event) → DoesIn behaviour l v (store t o) → DoesIn behaviour l w (store t q) → (v ≡ w) × (o ≡ q)
  by_one_event t o q v w i j = ((keeping behaviour l plan).event v w t o q i j, one_outcome behaviour l plan t o q (v, i) (w, j))

  run_state : (t : ℕ) (o : Outcome) → IsRunWith behaviour l t o → (its_state behaviour l t ≡ Some o) × DoesIn behaviour l (running t) (store t o)
  run_state t o (c, runs, its_no, out) =
      let own : DoesIn behaviour l (running (number_of c.own)) (store (number_of c.own) (outcome_of behaviour c)) = (value behaviour l plan).own c runs in
      let there : DoesIn behaviour l (running t) (store t o) =
      subst (λ n. DoesIn behaviour l (running n) (store n o)) its_no
      (subst (λ u. DoesIn behaviour l (running (number_of c.own)) (store (number_of c.own) u)) out own) in
      (has_state behaviour l plan t o (running t, there), there)

  not_run : (t : ℕ) (o : Outcome) (v : Event) → Other v → DoesIn behaviour l v (store t o) → IsNotRun behaviour l t
  not_run t o v h i c runs its_no =
      let own = run_state t (outcome_of behaviour c) (c, runs, its_no, refl) in
      subst Other (by_one_event t o (outcome_of behaviour c) v (running t) i own.1).0 h

  its_cases : (t : ℕ) (o : Outcome) → its_state behaviour l t ≡ Some o → IsRunWith behaviour l t o ⊎ IsFailedUnrun behaviour l t o
  its_cases t o e =
      let has : IsStored behaviour l t o = state_has behaviour l plan t o e in
      go has (comes_by behaviour l has.0 t o has.1)
    where
      go : (has : IsStored behaviour l t o) → Comes behaviour (evaluated behaviour l) has.0 t o → IsRunWith behaviour l t o ⊎ IsFailedUnrun behaviour l t o
      go has (inl (w, c, i, its_no, out)) = inl (c, (w, i), its_no, out)
      go has (inr (h, f, same)) = inr (not_run t o has.0 h has.1, f, same, has)

  failed_state : (t : ℕ) (o : Outcome) → IsFailedUnrun behaviour l t o → its_state behaviour l t ≡ Some o
  failed_state t o (unrun, f, same, has) = has_state behaviour l plan t o has

  pub event_states : EventStates behaviour l
  event_states = record {
    stored = λ t o e. state_has behaviour l plan t o e;
    of_stored = λ t o h. has_state behaviour l plan t o h;
    by_one = by_one_event;
    cases = its_cases;
    of_run = run_state;
    of_failed = failed_state;
  }
