-- The second part of the law, over the product's histories: a closed run does all that evaluation does, each thing once.
use Rattle.std.proofs.Common.{⊎_elim, ◌≡◌, ◌⊎◌, ℕ, suc, ◌+◌, Bool, true, false, cond, eqb, List, [], ◌∷◌, ◌++◌, map, length, Some, None, refl, sym, ap, subst, ◌∙◌, inl, inr, arith}
use Rattle.std.proofs.lemmas.Bool.{eqb-true, eq-eqb}
use Rattle.canvas_task.specs.Apply.{Behaviour}
use Rattle.canvas_task.specs.declared.outcome.Outcome.{Outcome}
use Rattle.canvas_semantics.specs.Evaluation as eval
use Rattle.canvas_semantics.specs.Line.{Line, members, size}
use Rattle.canvas_rewrite.specs.FrozenView.{PCarried}
use Rattle.canvas_rewrite.specs.Planned.{IsPlan}
use Rattle.canvas_rewrite.proofs.Members.{plan_apart}
use Rattle.canvas_envelope.specs.Content.{Content, number_of}
use Rattle.canvas_history.specs.Lists.{In, Each, total, seconds, firsts}
use Rattle.canvas_effects.specs.Events.{Event, start}
use Rattle.canvas_effects.specs.Flowing.{run, no_input}
use Rattle.canvas_effects.specs.Job.{Job, store, publish, part}
use Rattle.canvas_envelope.specs.declared.envelope.Envelope.{Envelope}
use Rattle.canvas_history.specs.declared.stored.Stored.{Stored}
use Rattle.canvas_history.specs.declared.stored.Stored.TheVariants.{First, Again}
use Rattle.canvas_history.specs.Table as table
use Rattle.canvas_history.specs.Roster.{roster_of}
use Rattle.canvas_history.specs.Answers.{answered_calls}
use Rattle.canvas_history.specs.Queue as queue
use Rattle.canvas_runs.specs.Book.{book_of}
use Rattle.canvas_runs.specs.Calls.{QueueAnswered, TableAnswered}
use Rattle.canvas_runs.proofs.Objects.Replay.{IsDrained}
use Rattle.canvas_runs.specs.Law.{its_state, IsRunMessage, IsPart, of_task, publishes_one, takes_one_of, agains_one_of, publications, takes_of_task, redeliveries, firsts_one, first_stores, agains_one, again_stores, returns_one, returns, SecondPart}
use Rattle.canvas_runs.specs.Logs.{queue_calls}
use Rattle.canvas_runs.specs.Run.{Run, Closed}
use Rattle.canvas_runs.specs.Worker.{sealed, opened}
use Rattle.canvas_runs.proofs.Plans.Backing.{open_none}
use Rattle.canvas_runs.proofs.Objects.Bridges.{drained_is, stored_stays}
use Rattle.canvas_runs.proofs.Plans.Canvas as plan_facts
use Rattle.canvas_runs.proofs.Plans.Canvas.{messages_of, total-same}
use Rattle.canvas_runs.proofs.Plans.Carrying.{content, sent, all_sent, p_carried}
use Rattle.canvas_runs.proofs.Runs.Drained.{IsDone, first_done, published_done, header_done}
use Rattle.canvas_runs.proofs.Plans.Effects.{Jobs, enter, after, body_after, outcome_of}
use Rattle.canvas_runs.proofs.Plans.Evaluation as evaluation
use Rattle.canvas_runs.proofs.Laws.Facts as facts
use Rattle.canvas_runs.proofs.Laws.Facts.{X, form, Does, order, value, p, Formed', FormedPart'}
use Rattle.canvas_runs.proofs.Laws.FactsOnce.{once, keeping, its_backs}
use Rattle.canvas_runs.proofs.Laws.FirstLaw.{has_state, state_has, inner_run, stored_right, first_part, run_again}
use Rattle.canvas_runs.proofs.Plans.Messages.{nowhere, Carried, Message}
use Rattle.canvas_runs.proofs.Runs.Meaning.{After, Beyond}
use Rattle.canvas_runs.proofs.Plans.Parts.{Kept}
use Rattle.canvas_runs.proofs.Plans.Scripts.{ended_script, completed_script, first_sent}
use Rattle.canvas_runs.proofs.Plans.Sized.{SizedJob, after_sized, body_sized, enter_sized, plan_sized}
use Rattle.canvas_runs.proofs.Plans.Started.{run_stores, messages_publish}
use Rattle.canvas_runs.proofs.Runs.StoredOnce.{takes_task, both_answers}
use Rattle.canvas_runs.proofs.Runs.Delivered.{taken_stored}
use Rattle.canvas_runs.proofs.Runs.OnceEach.{of_opened}
use Rattle.canvas_runs.proofs.Lists.Sums.{total-append, find_heavy, in_total}
use Rattle.canvas_runs.proofs.Runs.Tables.{Distinct, part_once}
use Rattle.canvas_runs.proofs.Plans.Trees.{AJob}
use Rattle.canvas_runs.proofs.Plans.Whole.{from_kinds, items_done}
use Rattle.canvas_runs.proofs.Lists.Words.{each_weaker, each_both, in_each}

each_unsent : (P : Job Content PCarried Outcome → Type 0) (js : Jobs) → Each P (all_sent js) → Each (λ x. P (sent x)) js
each_unsent P [] a = tt
each_unsent P (j ∷ js) a = (a.0, each_unsent P js a.1)

module _ (behaviour : Behaviour) (l : Line) (plan : IsPlan l) (r : Run behaviour l) (c : Closed behaviour l r) where
  drained : IsDrained [] (seconds (queue_calls r.queue))
  drained = drained_is [] r.queue [] refl r.queue_legal c.drained

  abbrev Finished : Job Content PCarried Outcome → Type 0
  Finished j = IsDone (X behaviour l plan) (form behaviour l plan) (Does behaviour l plan) (order behaviour l plan) (value behaviour l plan)
      (once behaviour l plan) (keeping behaviour l plan) (its_backs behaviour l plan) (inner_run behaviour l plan r) c.all_sent drained c.all_used c.all_ended j

  -- ---- as the proof has the jobs, with their form

  abbrev FormedJob : AJob → Type 0
  FormedJob (store t o) = Unit {0}
  FormedJob (publish m) = Formed' behaviour l plan m
  FormedJob (part g t d) = FormedPart' behaviour l plan g t d

  abbrev Made : AJob → Type 0
  Made x = Finished (sent x) × FormedJob x

  later_formed : (j : ℕ) (x : AJob) → After (plan_facts.X behaviour (p behaviour l plan)) (plan_facts.form behaviour (p behaviour l plan)) j x
      × SizedJob (size l) (members l) x → FormedJob x
  later_formed j (store t o) a = tt
  later_formed j (publish m) a = (a.0.1, a.1)
  later_formed j (part g t d) a = (a.0.1, a.1)

  beyond_formed : (g : ℕ) (x : AJob) → Beyond (plan_facts.X behaviour (p behaviour l plan)) (plan_facts.form behaviour (p behaviour l plan)) g x
      × SizedJob (size l) (members l) x → FormedJob x
  beyond_formed g (store t o) a = tt
  beyond_formed g (publish m) a = (a.0.1, a.1)
  beyond_formed g (part h t d) a = (a.0.1, a.1)

  after_formed : (m : Message) (o : Outcome) → Formed' behaviour l plan m → Each FormedJob (after m o)
  after_formed m o f =
      each_weaker (later_formed m.no) (after m o)
      (each_both (After (plan_facts.X behaviour (p behaviour l plan)) (plan_facts.form behaviour (p behaviour l plan)) m.no) (SizedJob (size l) (members l))
      (after m o) ((plan_facts.order behaviour (p behaviour l plan)).ended m o f.0) (after_sized (size l) (members l) m o f.1))

  body_formed : (g t : ℕ) (d : Carried) (fs : List (ℕ × Outcome)) → FormedPart' behaviour l plan g t d → firsts fs ≡ members l g
      → Each FormedJob (body_after d fs)
  body_formed g t d fs f same =
      each_weaker (beyond_formed g) (body_after d fs)
      (each_both (Beyond (plan_facts.X behaviour (p behaviour l plan)) (plan_facts.form behaviour (p behaviour l plan)) g) (SizedJob (size l) (members l))
      (body_after d fs) ((plan_facts.order behaviour (p behaviour l plan)).completed g t d fs f.0 same) (body_sized (size l) (members l) d fs f.1.1))

  script : (m : Message) → Made (publish m) → Made (store m.no (outcome_of behaviour m)) × Each Made (after m (outcome_of behaviour m))
  script m d =
      let done = published_done (X behaviour l plan) (form behaviour l plan) (Does behaviour l plan) (order behaviour l plan) (value behaviour l plan)
      (once behaviour l plan) (keeping behaviour l plan) (its_backs behaviour l plan)
      (inner_run behaviour l plan r) c.all_sent drained c.all_used c.all_ended (content m) d.0 in
      let jobs : Each Finished (all_sent (after m (outcome_of behaviour m))) =
      subst (Each Finished) (ended_script (members l) (p behaviour l plan).limit m (outcome_of behaviour m) d.1.0) done.1 in (
        (done.0, tt),
        each_both (λ x. Finished (sent x)) FormedJob (after m (outcome_of behaviour m))
            (each_unsent Finished (after m (outcome_of behaviour m)) jobs) (after_formed m (outcome_of behaviour m) d.1),
      )

  some_member : (g k : ℕ) (d : Carried) (ns : List ℕ) → length ns ≡ suc k → Each (λ t. Made (part g t d)) ns → (t : ℕ) × FormedPart' behaviour l plan g t d
  some_member g k d [] e a = absurd (omega (arith, e))
  some_member g k d (n ∷ ns) e a = (n, a.0.1)

  completes : (g k : ℕ) (d : Carried) → Distinct (members l g) → length (members l g) ≡ suc k → Each (λ t. Made (part g t d)) (members l g)
      → (fs : List (ℕ × Outcome)) × (firsts fs ≡ members l g) × Each (λ f. Kept behaviour (members l) (evaluation.evaluated behaviour l) f.0 f.1) fs
      × Each Made (body_after d fs)
  completes g k d distinct many all =
      let done = header_done (X behaviour l plan) (form behaviour l plan) (Does behaviour l plan) (order behaviour l plan) (value behaviour l plan)
      (once behaviour l plan) (keeping behaviour l plan) (its_backs behaviour l plan)
      (inner_run behaviour l plan r) c.all_sent drained c.all_used c.all_ended g k (p_carried d) distinct many
      (each_weaker (λ t h. h.0) (members l g) all) in
      let one = some_member g k d (members l g) many all in
      let jobs : Each Finished (all_sent (body_after d done.0)) =
      subst (Each Finished) (completed_script (members l) (p behaviour l plan).limit g one.0 d done.0 one.1.0) done.3 in (
        done.0,
        done.1,
        each_weaker (λ f h. (h.0, facts.stored behaviour l plan h.0 f.0 f.1 h.1)) done.0 done.2,
        each_both (λ x. Finished (sent x)) FormedJob (body_after d done.0) (each_unsent Finished (body_after d done.0) jobs)
            (body_formed g one.0 d done.0 one.1 done.1),
      )

  -- ---- the first messages

  messages_sized : (js : Jobs) → Each (SizedJob (size l) (members l)) js → (m : Message) → In m (messages_of js) → SizedJob (size l) (members l) (publish m)
  messages_sized [] a m i = elim i [ ]
  messages_sized (store t o ∷ js) a m i = messages_sized js a.1 m i
  messages_sized (publish n ∷ js) a m (inl e) = subst (λ u. SizedJob (size l) (members l) (publish u)) (sym e) a.0
  messages_sized (publish n ∷ js) a m (inr i) = messages_sized js a.1 m i
  messages_sized (part g t d ∷ js) a m i = messages_sized js a.1 m i

  map_in : (ms : List Message) (m : Message) → In m ms → In (content m) (map content ms)
  map_in [] m i = elim i [ ]
  map_in (n ∷ ms) m (inl e) = inl (ap content e)
  map_in (n ∷ ms) m (inr i) = inr (map_in ms m i)

  abbrev first_jobs : Jobs
  first_jobs = enter l (run no_input) nowhere 0 None

  first_made : (m : Message) → In m (messages_of first_jobs) → Made (publish m)
  first_made m i = (
    first_done (X behaviour l plan) (form behaviour l plan) (Does behaviour l plan) (order behaviour l plan) (value behaviour l plan) (once behaviour l plan)
        (keeping behaviour l plan) (its_backs behaviour l plan) (inner_run behaviour l plan r) c.all_sent drained c.all_used c.all_ended (content m)
        (subst (In (content m)) (sym (first_sent (members l) (p behaviour l plan).limit l (p behaviour l plan).numbered))
        (map_in (messages_of first_jobs) m i)),
    (
      in_each (plan_facts.form behaviour (p behaviour l plan)).Formed (messages_of first_jobs) (plan_facts.order behaviour (p behaviour l plan)).first m i,
      messages_sized first_jobs (enter_sized (size l) (members l) l (run no_input) nowhere 0 None (plan_sized l plan) tt) m i,
    ),
  )

  started : Each Made first_jobs
  started =
      from_kinds Made first_jobs (subst (Each Made) (sym (run_stores l no_input nowhere 0 None)) tt) (messages_publish Made first_jobs first_made)
      (subst (Each Made) (sym (open_none (members l) l (run no_input) nowhere 0 None 1 (p behaviour l plan).limit tt (p behaviour l plan).numbered)) tt)

  -- ---- all that the evaluation does is done

  all_made : Each (λ i. Made i.1) (evaluation.evaluated behaviour l)
  all_made = items_done behaviour (members l) Made (evaluation.evaluated behaviour l) script completes (plan_facts.one_outcome behaviour (p behaviour l plan)) l
      (run no_input) nowhere 0 start 1 (p behaviour l plan).limit (p behaviour l plan).numbered (λ i z. z) started

  finished : (v : Event) (j : Job Content PCarried Outcome) → Does behaviour l plan v j → Finished j
  finished v j i =
      let x = facts.does_back behaviour l plan v j i in
      subst Finished (sym x.1) (in_each (λ i. Made i.1) (evaluation.evaluated behaviour l) all_made (v, x.0) x.2).0

  -- ---- how often

  published_one : (d : Content) → IsRunMessage behaviour l d → publications l (number_of d.own) r.queue ≡ 1
  published_one d i =
      let done = finished i.0 (publish d) i.1 in
      let few = (first_part behaviour l plan r).published_once (number_of d.own) in
      let here = in_total (publishes_one l (number_of d.own)) (seconds (queue_calls r.queue)) (queue.publish (sealed d), None) done.2 in
      let mine : publishes_one l (number_of d.own) (queue.publish (sealed d), None) ≡ 1 =
      ap (of_task l (number_of d.own)) ((order behaviour l plan).opened d done.0 done.1)
      ∙ ap (λ b. cond b 1 0) (eq-eqb (number_of d.own) (number_of d.own) refl) in
      omega arith

  drained_total : (k : ℕ) (q : List Envelope) (cs : List (QueueAnswered Envelope)) → IsDrained q cs →
      total (takes_one_of l k) cs ≡ total (λ e. of_task l k (opened (book_of l) e)) q + (total (publishes_one l k) cs + total (agains_one_of l k) cs)
  drained_total k q [] same = let s : total (λ e. of_task l k (opened (book_of l) e)) q ≡ 0 = ap (total (λ e. of_task l k (opened (book_of l) e))) same in
      omega arith
  drained_total k q ((queue.publish e, y) ∷ cs) d =
      let t = drained_total k (q ++ e ∷ []) cs d in
      omega (arith, total-append (λ e. of_task l k (opened (book_of l) e)) q (e ∷ []))
  drained_total k q ((queue.redeliver e, y) ∷ cs) d =
      let t = drained_total k (q ++ e ∷ []) cs d in
      omega (arith, total-append (λ e. of_task l k (opened (book_of l) e)) q (e ∷ []))
  drained_total k q ((queue.take, Some e) ∷ cs) (rest, same, d) =
      let t = drained_total k rest cs d in
      let s : total (λ e. of_task l k (opened (book_of l) e)) q ≡ of_task l k (opened (book_of l) e) + total (λ e. of_task l k (opened (book_of l) e)) rest =
      ap (total (λ e. of_task l k (opened (book_of l) e))) same in
      omega arith
  drained_total k q (c ∷ cs) d = elim d [ ]

  taken_once : (k : ℕ) → takes_of_task l k r.queue ≡ publications l k r.queue + redeliveries l k r.queue
  taken_once k = let t = drained_total k [] (seconds (queue_calls r.queue)) drained in omega arith

  stored_once : (t : ℕ) (o : Outcome) → its_state behaviour l t ≡ Some o → first_stores t r.table ≡ 1
  stored_once t o e =
      let has = state_has behaviour l plan t o e in
      let done = finished has.0 (store t o) has.1 in
      let few = (first_part behaviour l plan r).stored_once t in
      let here = in_total (firsts_one t) (seconds (answered_calls r.table)) (table.store t o, table.was First) done in
      let mine : firsts_one t (table.store t o, table.was First) ≡ 1 = ap (λ b. cond b 1 0) (eq-eqb t t refl) in
      omega arith

  named : (t u : ℕ) (b : Bool) → eqb u t ≡ b → (◌≡◌ {A = ℕ} (cond b 1 0) 0 → ⊥) → u ≡ t
  named t u true e d = eqb-true _ _ e
  named t u false e d = absurd (d refl)

  pending_none : (t : ℕ) → its_state behaviour l t ≡ None → first_stores t r.table + again_stores t r.table ≡ 0
  pending_none t none =
      let a : first_stores t r.table ≡ 0 =
      ⊎_elim (λ z. z) (λ h. absurd (first_heavy h.0 h.1 h.2)) (find_heavy (firsts_one t) (seconds (answered_calls r.table))) in
      let b : again_stores t r.table ≡ 0 =
      ⊎_elim (λ z. z) (λ h. absurd (again_heavy h.0 h.1 h.2)) (find_heavy (agains_one t) (seconds (answered_calls r.table))) in
      omega arith
    where
      no_state : (o : Outcome) → its_state behaviour l t ≡ Some o → ⊥
      no_state o e = let bad : ◌≡◌ {A = eval.State} None (Some o) = sym none ∙ e in cc

      no_store : (u : ℕ) (o : Outcome) (b : Stored) → In (table.store u o, table.was b) (seconds (answered_calls r.table))
          → (◌≡◌ {A = ℕ} (cond (eqb u t) 1 0) 0 → ⊥) → ⊥
      no_store u o b i d = no_state o
          (subst (λ k. its_state behaviour l k ≡ Some o) (named t u (eqb u t) refl d)
          (has_state behaviour l plan u o (stored_right behaviour l plan r u o b i)))

      first_heavy : (x : TableAnswered) → In x (seconds (answered_calls r.table)) → (firsts_one t x ≡ 0 → ⊥) → ⊥
      first_heavy (table.store u o, table.was First) i d = no_store u o First i d
      first_heavy c i d = d refl

      again_heavy : (x : TableAnswered) → In x (seconds (answered_calls r.table)) → (agains_one t x ≡ 0 → ⊥) → ⊥
      again_heavy (table.store u o, table.was Again) i d = no_store u o Again i d
      again_heavy c i d = d refl

  -- what is delivered again was published once
  again_published : (k : ℕ) → (redeliveries l k r.queue ≡ 0) ⊎ (publications l k r.queue ≡ 1)
  again_published k = ⊎_elim (λ z. inl z) (λ h. heavy h.0 h.1 h.2) (find_heavy (agains_one_of l k) (seconds (queue_calls r.queue)))
    where
      heavy : (x : QueueAnswered Envelope) → In x (seconds (queue_calls r.queue)) → (agains_one_of l k x ≡ 0 → ⊥)
          → (redeliveries l k r.queue ≡ 0) ⊎ (publications l k r.queue ≡ 1)
      heavy (queue.redeliver e, y) i d =
          let a = run_again behaviour l plan r e y i in
          let one = published_one a.0 a.3 in
          let no : number_of a.0.own ≡ k = named k (number_of a.0.own) (eqb (number_of a.0.own) k) refl (subst (λ x. of_task l k x ≡ 0 → ⊥) a.2 d) in
          inr (subst (λ n. publications l n r.queue ≡ 1) no one)
      heavy c i d = absurd (d refl)

  take_weight : (k : ℕ) (c : QueueAnswered Envelope) → takes_task (X behaviour l plan) k c ≡ takes_one_of l k c
  take_weight k (queue.take, Some e) = go (opened (book_of l) e)
    where
      go : (x : _) → of_opened (X behaviour l plan) k x ≡ of_task l k x
      go None = refl
      go (Some c) = refl
  take_weight k c = refl

  stored_again : (t : ℕ) → again_stores t r.table ≡ redeliveries l t r.queue
  stored_again t =
      let calls = seconds (answered_calls r.table) in
      let few = (first_part behaviour l plan r).stored_again t in
      let one = (first_part behaviour l plan r).stored_once t in
      let takes = taken_once t in
      let same = total-same (takes_task (X behaviour l plan) t) (takes_one_of l t) (take_weight t) (seconds (queue_calls r.queue)) in
      let stores = taken_stored (X behaviour l plan) t (form behaviour l plan) (inner_run behaviour l plan r) c.all_used c.all_ended in
      let both = both_answers (X behaviour l plan) (form behaviour l plan) (Does behaviour l plan) (order behaviour l plan) (value behaviour l plan)
      (once behaviour l plan) (keeping behaviour l plan) (inner_run behaviour l plan r) t calls in
      ⊎_elim (λ z. omega arith) (λ p. omega arith) (again_published t)

  returned_once : (g t : ℕ) → IsPart behaviour l g t → returns g t r.table ≡ 1
  returned_once g t (d, v, i) =
      let done = finished v (part g t d) i in
      let few = (part_once g t [] [] (seconds (answered_calls r.table)) (inner_run behaviour l plan r).table).0 in
      let here = in_total (returns_one g t) (seconds (answered_calls r.table)) (table.part g t, table.count done.0) done.1 in
      let mine : returns_one g t (table.part g t, table.count done.0) ≡ 1 = ap (λ b. cond b (cond (eqb t t) 1 0) 0) (eq-eqb g g refl)
      ∙ ap (λ b. cond b 1 0) (eq-eqb t t refl) in
      omega arith

  rows_are : (t : ℕ) → (table.results (roster_of l) r.table).outcomes t ≡ its_state behaviour l t
  rows_are t = ⊎_elim (λ none. by_state none (its_state behaviour l t) refl) (λ e. e) ((first_part behaviour l plan r).rows t)
    where
      by_state : (table.results (roster_of l) r.table).outcomes t ≡ None → (s : eval.State) → its_state behaviour l t ≡ s
          → (table.results (roster_of l) r.table).outcomes t ≡ its_state behaviour l t
      by_state none None e = none ∙ sym e
      by_state none (Some o) e =
          let has = state_has behaviour l plan t o e in
          let there = stored_stays l (plan_apart l plan) t o First r.table table.no_results (finished has.0 (store t o) has.1) in
          absurd (let bad : ◌≡◌ {A = eval.State} None (Some there.0) = sym none ∙ there.1 in cc)

  pub second_part : SecondPart behaviour l r
  second_part = record {
    rows = rows_are;
    published = published_one;
    taken = taken_once;
    stored = stored_once;
    stored_again = stored_again;
    pending =
        pending_none;
    returned = returned_once;
  }
