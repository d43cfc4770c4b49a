-- A turn with its redelivery: the envelope that the core holds is delivered again where an entry for the core's point is unspent, and then its ask is answered.
use Rattle.std.proofs.Common.{◌≡◌, ◌⊎◌, ◌+◌, inl, inr, ℕ, suc, Bool, true, false, cond, List, [], ◌∷◌, ◌++◌, map, length, length-append, Option, Some, None, refl, sym, ap, ◌∙◌, subst, eqb, min, append_assoc, append-nil, arith}
use Rattle.std.specs.Prelude.{◌||◌, slice_get}
use Rattle.std.specs.List.{list_any}
use Rattle.std.specs.Option.{option_map}
use Rattle.canvas_task.specs.Apply.{Behaviour}
use Rattle.canvas_semantics.specs.Line.{Line}
use Rattle.canvas_rewrite.specs.FrozenView.{PCarried}
use Rattle.canvas_envelope.specs.Content.{Content}
use Rattle.canvas_envelope.specs.declared.envelope.Envelope.{Envelope}
use Rattle.canvas_history.specs.declared.stored.Stored.{Stored}
use Rattle.canvas_history.specs.declared.stored.Stored.TheVariants.{First, Again}
use Rattle.canvas_history.specs.Table.{Results}
use Rattle.canvas_backend.specs.Plain.{held}
use Rattle.canvas_history.specs.Roster.{Roster, roster_of}
use Rattle.canvas_runs.specs.Book.{book_of, book_on}
use Rattle.canvas_runs.specs.Calls.{scripts_of, of_scripts, held_after}
use Rattle.canvas_history.specs.Table as table
use Rattle.canvas_history.specs.Queue.{redeliver}
use Rattle.canvas_runs.specs.Core.{to_queue, to_table, rest, ack, from_queue, from_table, rested, acked, CoreState, taking, resting, over, failed, owning, doing, reading, acking, left_after, IsCoreRun, is_inside}
use Rattle.canvas_history.specs.Lists.{by}
use Rattle.canvas_runs.specs.Tally.{greatest_count}
use Rattle.canvas_runs.specs.Worker.{opened}
use Rattle.canvas_runs.specs.declared.when.When.{When}
use Rattle.canvas_runs.specs.declared.when.When.TheVariants.{Early, Late}
use Rattle.canvas_runs.proofs.Lists.Sums.{total-append}
use Rattle.canvas_runs.proofs.Runs.MoreAsks.{by_append, scripts_append, held_append, asks_of_scripts}
use Rattle.canvas_runs.specs.Redeliveries.{TurnedAgain, wanted, spent, comes_to, message_in, point_of, point, answers_again, agains_in}
use Rattle.canvas_runs.specs.Turns.{Step, IsWorker, redelivery, Turned, all_taken, delivers_again, left, holds, holds_more, is_queued, redelivers_one}
use Rattle.canvas_runs.proofs.ByTurns.Redeliveries.{again_step, again_spend}
use Rattle.canvas_runs.proofs.ByTurns.Turning.{queue_more, results_more, turned_append}
use Rattle.canvas_core.specs.Asks.{Asked, Answer, replied}
use Rattle.canvas_core.specs.Cores.{IsAlike}
use Rattle.canvas_core.specs.Books.{no_book}
use Rattle.canvas_core.specs.EnvelopeWorker.{enveloped, enveloped_by, no_tasks}
use Rattle.canvas_core.specs.CorePast.{task_in}
use Rattle.canvas_core.specs.CoreState as standing
use Rattle.canvas_core.specs.CoreState.{CoreView, Left, located, next, task_of, point_in, point_at}
use Rattle.canvas_core.specs.declared.ask.Ask.TheVariants.{Rest}
use Rattle.canvas_core.proofs.Cores.Located.{located_same}
use Rattle.canvas_engine.specs.Noted.{opening_steps, step_seen}
use Rattle.canvas_engine.specs.steps.Noting.{Noted, kept}
use Rattle.canvas_engine.specs.steps.TurnRuns.{asks_of, AnswersNow, step_now, Stepped, store_answer, counted_on, Redelivers, IsCoreAt, LeadsTo, Given, Reached, IsTurn}
use Rattle.canvas_engine.specs.declared.by_turns.turn_run.TurnRun.{TurnRun}
use Rattle.canvas_engine.proofs.ByTurns.Noting.{noted_then, said_now}
use Rattle.canvas_engine.proofs.ByTurns.TurnRunAsks.{stored_says}
use Rattle.canvas_engine.proofs.ByTurns.TurnRunSteps.{together, more_is, same_ask, worker_back, answered_so, stepped}

-- ---- the point to which a core has come

module _ (l : Line) where
  of_message : (w : When) (y : Option Content) → option_map (λ k. (k, w)) (task_of y) ≡ point_of l w y
  of_message w None = refl
  of_message w (Some c) = refl

  of_held : (w : When) (h : Option Envelope) → option_map (λ k. (k, w)) (task_in (book_of l) h) ≡ point_of l w (message_in l h)
  of_held w None = refl
  of_held w (Some e) = of_message w (opened (book_of l) e)

  point_alike : (behaviour : Behaviour) (s : Left) (t : CoreState Content PCarried) → IsAlike behaviour s t → (x : Option ℕ) (h : Option Envelope)
      → (is_inside s ≡ true → x ≡ task_in (book_of l) h) → point_in s x ≡ point l t h
  point_alike behaviour taking taking a x h task = refl
  point_alike behaviour resting resting a x h task = refl
  point_alike behaviour over over a x h task = refl
  point_alike behaviour failed failed a x h task = refl
  point_alike behaviour (owning e) (owning c) a x h task = ap (option_map (λ k. (k, Early))) (task refl) ∙ of_held Early h
  point_alike behaviour (doing js b) (doing ks d) a x h task = refl
  point_alike behaviour (reading g c t fs) (reading k d u gs) a x h task = refl
  point_alike behaviour acking acking a x h task = ap (option_map (λ k. (k, Late))) (task refl) ∙ of_held Late h
  point_alike behaviour s t a x h task = elim a [ ]

-- ---- counts

pub no_copy : (a : Asked) → of_scripts a ≡ true → redelivers_one a ≡ 0
no_copy (to_queue (redeliver e)) h = absurd cc
no_copy a h = refl

abbrev again_one : Stored → ℕ
again_one First = 0
again_one Again = 1

again_said : (plan : Roster) (queue : List Envelope) (held : Results) (more : Bool) (a : Asked) (r : Answer) → AnswersNow plan queue held more a r
    → answers_again a r ≡ again_one (store_answer held a)
again_said plan queue held more (to_queue c) (from_queue x) h = refl
again_said plan queue held more (to_table (table.store t o)) (from_table (table.was b)) h =
    one b ∙ ap again_one (stored_says b (table.first_or (held.outcomes t)) h)
  where
    one : (b : Stored) → answers_again (to_table (table.store t o)) (from_table (table.was b)) ≡ again_one b
    one First = refl
    one Again = refl
again_said plan queue held more (to_table (table.store t o)) (from_table r) h = absurd cc
again_said plan queue held more (to_table (table.part g t)) (from_table r) h = refl
again_said plan queue held more (to_table (table.read t)) (from_table r) h = refl
again_said plan queue held more rest (rested m) h = refl
again_said plan queue held more ack acked h = refl
again_said plan queue held more a r h = elim h [ ]

more_agains : (n r s : ℕ) (b : Stored) → r ≡ min greatest_count n → s ≡ counted_on r b → s ≡ min greatest_count (n + again_one b)
more_agains n r s Again a b = omega (arith, a, b)
more_agains n r s First a b = omega (arith, a, b)

-- ---- a run with the same queue, table and cores

module _ (behaviour : Behaviour) (l : Line) (n : ℕ) (us : List ℕ) (xs : List Step) (s : TurnRun) (leads : LeadsTo behaviour l n us xs s) where
  leads_too : (t : TurnRun) → t.queue ≡ s.queue → t.table ≡ s.table → t.cores ≡ s.cores → LeadsTo behaviour l n us xs t
  leads_too t q table cores = record {
    by_turns = leads.by_turns;
    runs = leads.runs;
    queue_is = q ∙ leads.queue_is;
    plan_is = ap (λ z. z.plan) table ∙ leads.plan_is;
    table_is = ap held table ∙ leads.table_is;
    many = ap (λ z. length z.items) cores ∙ leads.many;
    cores_are = λ j c h. leads.cores_are j c (ap (λ z. slice_get z.items j) (sym cores) ∙ h);
  }

  -- ---- the envelope of the core at place i is delivered again

  module _ (i : ℕ) (c : CoreView) (here : slice_get s.cores.items i ≡ Some c) where
    pub point_is : point_at c ≡ comes_to behaviour l xs (suc i)
    point_is =
        let at = leads.cores_are i c here in
        sym (located_same (λ u. point_in u c.task) (λ g d t v fs. refl) (book_of l) c.left)
        ∙ point_alike l behaviour (located (book_of l) c.left) (left behaviour l xs (suc i))
        (subst (λ z. IsAlike behaviour z (left behaviour l xs (suc i))) (sym at.left) (together behaviour l n us xs s leads (suc i)).1.alike) c.task
        (holds xs (suc i)) (λ inside. at.task (sym (located_same is_inside (λ g d t v fs. refl) (book_of l) c.left) ∙ inside))

    module _ (own : IsWorker n (suc i)) (e : Envelope) (has : standing.held c ≡ Some e) where
      abbrev copy : Step
      copy = redelivery (suc i) e

      holds_it : holds xs (suc i) ≡ Some e
      holds_it = sym (leads.cores_are i c here).holds ∙ has

      none_asked : (b : Bool) → scripts_of {E = Envelope} (cond b ((to_queue (redeliver e), from_queue None) ∷ []) []) ≡ []
      none_asked true = refl
      none_asked false = refl

      still_held : (h : Option Envelope) (b : Bool) → held_after {E = Envelope} h (cond b ((to_queue (redeliver e), from_queue None) ∷ []) []) ≡ h
      still_held h true = refl
      still_held h false = refl

      scripts_same : (p : ℕ) → scripts_of (by p (xs ++ copy ∷ [])) ≡ scripts_of (by p xs)
      scripts_same p = ap scripts_of (by_append p xs (copy ∷ [])) ∙ scripts_append (by p xs) (by p (copy ∷ []))
          ∙ ap (λ ys. scripts_of (by p xs) ++ ys) (none_asked (eqb (suc i) p)) ∙ append-nil (scripts_of (by p xs))

      held_same : (p : ℕ) → held_after None (by p (xs ++ copy ∷ [])) ≡ held_after None (by p xs)
      held_same p = ap (held_after None) (by_append p xs (copy ∷ [])) ∙ held_append None (by p xs) (by p (copy ∷ []))
          ∙ still_held (held_after None (by p xs)) (eqb (suc i) p)

      pub delivered : (t : TurnRun) → t.queue ≡ s.queue ++ e ∷ [] → t.table ≡ s.table → t.cores ≡ s.cores → LeadsTo behaviour l n us (xs ++ copy ∷ []) t
      delivered t q table cores = record {
        by_turns = record {
          plan = leads.by_turns.plan;
          opens_back = leads.by_turns.opens_back;
          workers = leads.by_turns.workers;
          turned = subst (λ vs. Turned behaviour l n [] vs (xs ++ copy ∷ [])) (append-nil us)
              (turned_append behaviour l n [] us [] xs (copy ∷ []) leads.by_turns.turned (delivers_again own holds_it all_taken));
        };
        runs = λ p. subst (IsCoreRun (enveloped behaviour (roster_of l)) taking) (sym (scripts_same p)) (leads.runs p);
        queue_is = q ∙ ap (λ z. z ++ e ∷ []) leads.queue_is ∙ sym (queue_more _ xs copy);
        plan_is = ap (λ z. z.plan) table ∙ leads.plan_is;
        table_is = ap held table ∙ leads.table_is ∙ sym (results_more _ xs copy);
        many = ap (λ z. length z.items) cores ∙ leads.many;
        cores_are = λ j d h. core_same j d (leads.cores_are j d (ap (λ z. slice_get z.items j) (sym cores) ∙ h));
      }
        where
          core_same : (j : ℕ) (d : CoreView) → IsCoreAt behaviour l (by (suc j) xs) d → IsCoreAt behaviour l (by (suc j) (xs ++ copy ∷ [])) d
          core_same j d at = record {
            left = at.left ∙ ap (left_after (enveloped behaviour (roster_of l)) taking) (sym (scripts_same (suc j)));
            is_in = at.is_in;
            holds = at.holds ∙ sym (held_same (suc j));
            has_one = at.has_one;
            task = λ inside. at.task inside ∙ ap (task_in (book_of l)) (sym (held_same (suc j)));
          }

-- whichever it is, some steps lead to the run
pub stood : (behaviour : Behaviour) (l : Line) (n : ℕ) (us : List ℕ) (xs : List Step) (s : TurnRun) (leads : LeadsTo behaviour l n us xs s) (i : ℕ)
    (c : CoreView)
    (here : slice_get s.cores.items i ≡ Some c) → IsWorker n (suc i)
    → (t : TurnRun) → Redelivers (suc i) c s t → (ys : List Step) × LeadsTo behaviour l n us ys t
stood behaviour l n us xs s leads i c here own t gone = go gone.envelope
  where
    go : ((wanted (point_at c) s.again.items ≡ false) × (t.queue ≡ s.queue) × (t.again.items ≡ s.again.items) × (t.notes ≡ s.notes))
        ⊎ ((wanted (point_at c) s.again.items ≡ true) × ((e : Envelope) × (standing.held c ≡ Some e) × (t.queue ≡ s.queue ++ e ∷ [])
        × Noted s.notes (redelivery (suc i) e ∷ []) t.notes)
        × (t.again.items ≡ spent (point_at c) s.again.items))
        → (ys : List Step) × LeadsTo behaviour l n us ys t
    go (inl (w, q, a, k)) = (xs, leads_too behaviour l n us xs s leads t q gone.others.0 gone.others.1)
    go (inr (w, (e, has, q, k), a)) =
        (xs ++ redelivery (suc i) e ∷ [], delivered behaviour l n us xs s leads i c here own e has t q gone.others.0 gone.others.1)

-- ---- a turn

module _ (behaviour : Behaviour) (l : Line) (n most : ℕ) (es : Given) (us : List ℕ) (xs : List Step) (s : TurnRun)
    (reached : Reached behaviour l n most es us xs s) (i : ℕ) (c : CoreView) (here : slice_get s.cores.items i ≡ Some c) (own : IsWorker n (suc i)) where
  module _ (t : TurnRun) (gone : Redelivers (suc i) c s t) (more : Bool) (told : next c ≡ Rest
      → more ≡ (is_queued t.queue || list_any (λ d. is_inside d.left) t.cores.items)) where
    here_too : slice_get t.cores.items i ≡ Some c
    here_too = ap (λ z. slice_get z.items i) gone.others.1 ∙ here

    module _ (s' : TurnRun) (c' : CoreView) (step : Stepped behaviour more c t.queue t.table c' s'.queue s'.table)
        (put : (length s'.cores.items ≡ length t.cores.items)
        × ((j : ℕ) (e : CoreView) → slice_get s'.cores.items j ≡ Some e → ((j ≡ i) × (e ≡ c')) ⊎ ((j ≡ i → ⊥) × (slice_get t.cores.items j ≡ Some e))))
        (fewer : t.steps ≡ suc s'.steps) (said : s'.repeats ≡ counted_on t.repeats (store_answer (held t.table) (asks_of t.table.plan c)))
        (kept_so : s'.again.items ≡ t.again.items)
        (noted : Noted t.notes (step_now (suc i) t.table.plan t.queue (held t.table) more (asks_of t.table.plan c) ∷ []) s'.notes) where
      abbrev answer : Step
      answer = (suc i, (asks_of t.table.plan c, (replied step.reply)))

      is_answer : redelivers_one (asks_of t.table.plan c) ≡ 0
      is_answer = no_copy (asks_of t.table.plan c) (asks_of_scripts (enveloped_by no_tasks no_book) (located (book_on t.table.plan) c.left))

      -- the answers Again so far
      agains_so : (ys : List Step) → t.repeats ≡ min greatest_count (agains_in ys) → s'.repeats ≡ min greatest_count (agains_in (ys ++ answer ∷ []))
      agains_so ys so_far =
          let said_so : answers_again (asks_of t.table.plan c) (replied step.reply) ≡ again_one (store_answer (held t.table) (asks_of t.table.plan c)) =
          again_said t.table.plan t.queue (held t.table) more (asks_of t.table.plan c) (replied step.reply) step.answers in
          let whole = total-append (λ (y : Step). answers_again y.1.0 y.1.1) ys (answer ∷ []) in
          more_agains (agains_in ys) t.repeats s'.repeats (store_answer (held t.table) (asks_of t.table.plan c)) so_far said
          ∙ ap (min greatest_count) (omega (arith, whole, said_so))

      noted_answer : Noted t.notes (answer ∷ []) s'.notes
      noted_answer =
          subst (λ r. Noted t.notes ((suc i, (asks_of t.table.plan c, r)) ∷ []) s'.notes)
          (said_now t.table.plan t.queue (held t.table) more (asks_of t.table.plan c) (replied step.reply) step.answers) noted

      module _ (ys : List Step) (keeps : t.notes.keeps ≡ es.1) (so_far : map step_seen t.notes.steps.items ≡ kept es.1 (opening_steps l ++ ys)) where
        keeps_so : s'.notes.keeps ≡ es.1
        keeps_so = noted.0 ∙ keeps

        -- what is noted so far
        noted_so : map step_seen s'.notes.steps.items ≡ kept es.1 (opening_steps l ++ (ys ++ answer ∷ []))
        noted_so = noted_then l ys answer es.1 t.notes s'.notes keeps so_far noted_answer

      module _ (ys : List Step) (leads : LeadsTo behaviour l n us ys t) where
        told_so : next c ≡ Rest → more ≡ holds_more behaviour l n ys
        told_so e = told e ∙ more_is behaviour l n us ys t leads

        leads_then : LeadsTo behaviour l n (us ++ suc i ∷ []) (ys ++ answer ∷ []) s'
        leads_then = stepped behaviour l n us ys t leads i c here_too more told_so s' c' own step put

      pub one_turn : IsTurn behaviour true l n most es us xs (suc i) s'
      one_turn = go gone.envelope
        where
          go : ((wanted (point_at c) s.again.items ≡ false) × (t.queue ≡ s.queue) × (t.again.items ≡ s.again.items) × (t.notes ≡ s.notes))
              ⊎ ((wanted (point_at c) s.again.items ≡ true) × ((e : Envelope) × (standing.held c ≡ Some e) × (t.queue ≡ s.queue ++ e ∷ [])
              × Noted s.notes (redelivery (suc i) e ∷ []) t.notes)
              × (t.again.items ≡ spent (point_at c) s.again.items))
              → IsTurn behaviour true l n most es us xs (suc i) s'
          go (inl (w, q, a, k)) =
              let leads = leads_too behaviour l n us xs s reached.leads t q gone.others.0 gone.others.1 in
              let here_point = point_is behaviour l n us xs s reached.leads i c here in (
                answer ∷ [],
                record {
                  leads = leads_then xs leads;
                  turned = subst (TurnedAgain behaviour l n [] es.0 (us ++ suc i ∷ []) (xs ++ answer ∷ [])) (sym (kept_so ∙ a))
                      (again_step behaviour l n es.0 us xs s.again.items reached.turned (suc i) (asks_of t.table.plan c) (replied step.reply)
                      (ap (λ z. wanted z s.again.items) (sym here_point) ∙ w)
                      (worker_back behaviour l n us xs t leads i c here_too step.reads_back) (same_ask behaviour l n us xs t leads i c here_too step.reads_back)
                      (answered_so behaviour l n us xs t leads i c here_too more (told_so xs leads) (replied step.reply) step.answers));
                  agains = agains_so xs (gone.others.3 ∙ reached.agains);
                  count =
                      let long = length-append xs (answer ∷ []) in
                      let few = total-append (λ (y : Step). redelivers_one y.1.0) xs (answer ∷ []) in
                      omega (arith, long, few, is_answer, reached.count, fewer, gone.others.2);
                  keeps = keeps_so xs (ap (λ z. z.keeps) k ∙ reached.keeps) (ap (λ z. map step_seen z.steps.items) k ∙ reached.noted);
                  noted = noted_so xs (ap (λ z. z.keeps) k ∙ reached.keeps) (ap (λ z. map step_seen z.steps.items) k ∙ reached.noted);
                },
                omega (arith, is_answer),
              )
          go (inr (w, (e, has, q, k), a)) =
              let there = reached.leads in
              let d : Step = redelivery (suc i) e in
              let ys = xs ++ d ∷ [] in
              let leads : LeadsTo behaviour l n us ys t = delivered behaviour l n us xs s there i c here own e has t q gone.others.0 gone.others.1 in
              let here_point = point_is behaviour l n us xs s there i c here in
              let all : ys ++ answer ∷ [] ≡ xs ++ d ∷ answer ∷ [] = append_assoc xs (d ∷ []) (answer ∷ []) in
              let none_more : agains_in ys ≡ agains_in xs =
              (let whole = total-append (λ (y : Step). answers_again y.1.0 y.1.1) xs (d ∷ []) in omega (arith, whole)) in (
                d ∷ answer ∷ [],
                record {
                  leads = subst (λ zs. LeadsTo behaviour l n (us ++ suc i ∷ []) zs s') all (leads_then ys leads);
                  turned = subst (TurnedAgain behaviour l n [] es.0 (us ++ suc i ∷ []) (xs ++ d ∷ answer ∷ []))
                      (sym (kept_so ∙ a ∙ ap (λ z. spent z s.again.items) here_point))
                      (again_spend behaviour l n es.0 us xs s.again.items reached.turned (suc i) e (asks_of t.table.plan c) (replied step.reply)
                      (ap (λ z. wanted z s.again.items) (sym here_point) ∙ w) own (sym (there.cores_are i c here).holds ∙ has)
                      (worker_back behaviour l n us ys t leads i c here_too step.reads_back) (same_ask behaviour l n us ys t leads i c here_too step.reads_back)
                      (answered_so behaviour l n us ys t leads i c here_too more (told_so ys leads) (replied step.reply) step.answers));
                  agains = agains_so ys (gone.others.3 ∙ reached.agains ∙ ap (min greatest_count) (sym none_more))
                      ∙ ap (λ zs. min greatest_count (agains_in zs)) all;
                  count =
                      let long = length-append xs (d ∷ answer ∷ []) in
                      let few = total-append (λ (y : Step). redelivers_one y.1.0) xs (d ∷ answer ∷ []) in
                      omega (arith, long, few, is_answer, reached.count, fewer, gone.others.2);
                  keeps = keeps_so ys (k.0 ∙ reached.keeps) (noted_then l xs d es.1 s.notes t.notes reached.keeps reached.noted k);
                  noted = noted_so ys (k.0 ∙ reached.keeps) (noted_then l xs d es.1 s.notes t.notes reached.keeps reached.noted k)
                      ∙ ap (λ zs. kept es.1 (opening_steps l ++ zs)) all;
                },
                omega (arith, is_answer),
              )
