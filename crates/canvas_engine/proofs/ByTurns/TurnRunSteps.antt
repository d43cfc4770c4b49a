-- One answered ask of one worker is one more step of the run.
use Rattle.std.proofs.Common.{◌≡◌, ◌≢◌, ◌⊎◌, inl, inr, ℕ, suc, ◌+◌, Bool, true, false, List, [], ◌∷◌, ◌++◌, length, Some, None, refl, sym, ap, ◌∙◌, subst, eqb, arith}
use Rattle.std.specs.Prelude.{◌||◌, IsSome, slice_get}
use Rattle.std.proofs.lemmas.Bool.{eqb-true, eqb-false}
use Rattle.std.specs.List.{list_any}
use Rattle.canvas_runs.specs.Calls.{scripts_of, of_scripts, held_by, held_after}
use Rattle.canvas_task.specs.Apply.{Behaviour}
use Rattle.canvas_semantics.specs.Line.{Line}
use Rattle.canvas_rewrite.specs.FrozenView.{PCarried}
use Rattle.canvas_envelope.specs.Content.{Content}
use Rattle.canvas_envelope.specs.declared.envelope.Envelope.{Envelope}
use Rattle.canvas_history.specs.Table.{Results}
use Rattle.canvas_backend.specs.Plain.{held}
use Rattle.canvas_history.specs.Roster.{Roster, roster_of}
use Rattle.canvas_runs.specs.Book.{book_of, book_on}
use Rattle.canvas_history.specs.Table as table
use Rattle.canvas_history.specs.Queue as queue
use Rattle.canvas_runs.specs.Core.{to_queue, to_table, rest, from_queue, from_table, rested, CoreState, taking, resting, over, failed, owning, doing, reading, ask, answered, left_after, Suits, ReadsBack, IsCoreRun, is_inside, ack, acked, acking}
use Rattle.canvas_history.specs.Lists.{Each, by}
use Rattle.canvas_runs.specs.Worker.{worker}
use Rattle.canvas_runs.proofs.Runs.MoreAsks.{by_more, by_other, left_more, core_more, scripts_more, asks_of_scripts, held_append}
use Rattle.canvas_runs.specs.Turns.{Step, IsWorker, Turned, Answers, HasEnded, left, queue_after, queue_next, results_after, results_next, holds_more, some_inside, is_queued}
use Rattle.canvas_runs.proofs.ByTurns.Turning.{queue_more, results_more, turned_step}
use Rattle.canvas_core.specs.Asks.{Asked, Answer, FoundOf, replied}
use Rattle.canvas_core.specs.Books.{no_book}
use Rattle.canvas_core.specs.Cores.{GoTogether, IsAlike}
use Rattle.canvas_core.specs.EnvelopeWorker.{enveloped, enveloped_by, no_tasks}
use Rattle.canvas_core.specs.CorePast.{task_in}
use Rattle.canvas_core.specs.CoreState as standing
use Rattle.canvas_core.specs.CoreState.{CoreView, Left, located, asked, next, after_reply}
use Rattle.canvas_core.specs.declared.ask.Ask.TheVariants.{Rest, End}
use Rattle.canvas_core.specs.steps.Members.{members_in}
use Rattle.canvas_core.proofs.Cores.CoreLaw.{cores_are_workers}
use Rattle.canvas_core.proofs.Cores.Opened.{has_told}
use Rattle.canvas_core.proofs.Cores.Sound.{Sound, run_sound}
use Rattle.canvas_core.proofs.Cores.Located.{located_same, reads_located, told_located}
use Rattle.canvas_core.proofs.Cores.CorePasts.{book_told, task_told}
use Rattle.canvas_core.proofs.Cores.ShownAsks.{is_end, shown_end, shown_rest}
use Rattle.canvas_engine.specs.steps.TurnRuns.{asks_of, AnswersNow, Stepped, IsCoreAt, LeadsTo}
use Rattle.canvas_engine.specs.declared.by_turns.turn_run.TurnRun.{TurnRun}

-- ---- what was answered

module _ (behaviour : Behaviour) (l : Line) (n : ℕ) (xs : List Step) where
  pub answers_run : (more : Bool) (a : Asked) (r : Answer) → (a ≡ rest → more ≡ holds_more behaviour l n xs)
      → AnswersNow (roster_of l) (queue_after l xs) (results_after xs) more a r → Answers behaviour l n xs a r
  answers_run more (to_queue c) (from_queue x) m h = h
  answers_run more (to_table c) (from_table r) m h = h
  answers_run more rest (rested b) m h = h ∙ m refl
  answers_run more ack acked m h = tt
  answers_run more a r m h = elim h [ ]

suits_now : (plan : Roster) (queued : List Envelope) (held : Results) (more : Bool) (a : Asked) (r : Answer) → of_scripts a ≡ true
    → AnswersNow plan queued held more a r → Suits a r
suits_now plan queued held more (to_queue queue.take) (from_queue x) asks h = tt
suits_now plan queued held more (to_queue (queue.publish e)) (from_queue None) asks h = tt
suits_now plan queued held more (to_queue (queue.publish e)) (from_queue (Some x)) asks h = absurd cc
suits_now plan queued held more (to_queue (queue.redeliver e)) (from_queue x) asks h = absurd cc
suits_now plan queued held more (to_table (table.store t o)) (from_table (table.was b)) asks h = tt
suits_now plan queued held more (to_table (table.part g t)) (from_table (table.count k)) asks h = tt
suits_now plan queued held more (to_table (table.read t)) (from_table (table.found x)) asks h = tt
suits_now plan queued held more (to_table c) (from_table r) asks h = absurd cc
suits_now plan queued held more rest (rested b) asks h = tt
suits_now plan queued held more ack acked asks h = tt
suits_now plan queued held more a r asks h = elim h [ ]

-- ---- whether somebody is inside a message

inside_alike : (behaviour : Behaviour) → (s : Left) (t : CoreState Content PCarried) → IsAlike behaviour s t → is_inside s ≡ is_inside t
inside_alike behaviour taking taking h = refl
inside_alike behaviour resting resting h = refl
inside_alike behaviour over over h = refl
inside_alike behaviour failed failed h = refl
inside_alike behaviour (owning e) (owning c) h = refl
inside_alike behaviour (doing js b) (doing ks d) h = refl
inside_alike behaviour (reading g c t fs) (reading h d u gs) k = refl
inside_alike behaviour acking acking h = refl
inside_alike behaviour s t h = elim h [ ]

or_front : (a b c : Bool) → ((a || b) || c) ≡ (b || (a || c))
or_front true true c = refl
or_front true false c = refl
or_front false true c = refl
or_front false false c = refl

or_none : (a : Bool) → (a || false) ≡ a
or_none true = refl
or_none false = refl

module _ (behaviour : Behaviour) (l : Line) (xs : List Step) where
  -- those of the cores, and those of the workers 1 to k
  inside_from : (cores : List CoreView) (k : ℕ)
      → ((i : ℕ) (c : CoreView) → slice_get cores i ≡ Some c → is_inside c.left ≡ is_inside (left behaviour l xs (suc (k + i))))
      → (list_any (λ c. is_inside c.left) cores || some_inside behaviour l k xs) ≡ some_inside behaviour l (k + length cores) xs
  inside_from [] k h = ap (λ m. some_inside behaviour l m xs) (omega arith)
  inside_from (c ∷ cs) k h =
      or_front (is_inside c.left) (list_any (λ d. is_inside d.left) cs) (some_inside behaviour l k xs)
      ∙ ap (λ b. list_any (λ d. is_inside d.left) cs || (b || some_inside behaviour l k xs))
      (h 0 c refl ∙ ap (λ m. is_inside (left behaviour l xs (suc m))) (omega arith))
      ∙ inside_from cs (suc k) (λ i d e. h (suc i) d e ∙ ap (λ m. is_inside (left behaviour l xs (suc m))) (omega arith))
      ∙ ap (λ m. some_inside behaviour l m xs) (omega arith)

pub each_more : {n : ℕ} (us : List ℕ) (p : ℕ) → Each (IsWorker n) us → IsWorker n p → Each (IsWorker n) (us ++ p ∷ [])
each_more [] p a w = (w, tt)
each_more (u ∷ us) p a w = (a.0, each_more us p a.1 w)

-- ---- the worker that a core leads for

module _ (behaviour : Behaviour) (l : Line) (n : ℕ) (us : List ℕ) (xs : List Step) (s : TurnRun) (leads : LeadsTo behaviour l n us xs s) where
  pub together : (p : ℕ) → IsCoreRun (worker behaviour l) taking (scripts_of (by p xs))
      × GoTogether behaviour l (left_after (enveloped behaviour (roster_of l)) taking (scripts_of (by p xs))) (left behaviour l xs p)
  together p = cores_are_workers behaviour l (scripts_of (by p xs)) (leads.runs p)

  pub more_is : (is_queued s.queue || list_any (λ c. is_inside c.left) s.cores.items) ≡ holds_more behaviour l n xs
  more_is =
      let one : (i : ℕ) (c : CoreView) → slice_get s.cores.items i ≡ Some c → is_inside c.left ≡ is_inside (left behaviour l xs (suc (0 + i))) = λ i c e.
      sym (located_same is_inside (λ g d t v fs. refl) (book_of l) c.left) ∙ ap is_inside (leads.cores_are i c e).left
      ∙ inside_alike behaviour _ _ (together (suc i)).1.alike
      ∙ ap (λ m. is_inside (left behaviour l xs (suc m))) (omega arith) in
      ap (λ q. is_queued q || list_any (λ c. is_inside c.left) s.cores.items) leads.queue_is
      ∙ ap (λ b. is_queued (queue_after l xs) || b) (sym (or_none (list_any (λ c. is_inside c.left) s.cores.items))
      ∙ inside_from behaviour l xs s.cores.items 0 one ∙ ap (λ m. some_inside behaviour l m xs) (omega (arith, leads.many)))

  -- the core at place i
  module _ (i : ℕ) (c : CoreView) (here : slice_get s.cores.items i ≡ Some c) where
    env_left : located (book_on s.table.plan) c.left ≡ left_after (enveloped behaviour (roster_of l)) taking (scripts_of (by (suc i) xs))
    env_left = ap (λ (plan : Roster). located (book_on plan) c.left) leads.plan_is ∙ (leads.cores_are i c here).left

    back_there : ReadsBack (enveloped_by no_tasks no_book) c.left
        → ReadsBack (enveloped behaviour (roster_of l)) (left_after (enveloped behaviour (roster_of l)) taking (scripts_of (by (suc i) xs)))
    back_there back = subst (ReadsBack (enveloped behaviour (roster_of l))) env_left (reads_located behaviour (book_of l) (book_on s.table.plan) c.left back)

    pub same_ask : ReadsBack (enveloped_by no_tasks no_book) c.left → asks_of s.table.plan c ≡ ask (worker behaviour l) (left behaviour l xs (suc i))
    same_ask back = ap asked env_left ∙ sym ((together (suc i)).1.asks (back_there back))

    pub has_ended : ReadsBack (enveloped_by no_tasks no_book) c.left → next c ≡ End → HasEnded behaviour l xs (suc i)
    has_ended back e = sym (same_ask back) ∙ is_end (book_on s.table.plan) c e

    pub not_ended : ReadsBack (enveloped_by no_tasks no_book) c.left → (next c ≡ End → ⊥) → HasEnded behaviour l xs (suc i) → ⊥
    not_ended back going e = going (shown_end (book_on s.table.plan) c (same_ask back ∙ e))

    pub worker_back : ReadsBack (enveloped_by no_tasks no_book) c.left → ReadsBack (worker behaviour l) (left behaviour l xs (suc i))
    worker_back back = (together (suc i)).1.reads_back (back_there back)

    module _ (more : Bool) (more_so : next c ≡ Rest → more ≡ holds_more behaviour l n xs) where
      pub answered_so : (r : Answer) → AnswersNow s.table.plan s.queue (held s.table) more (asks_of s.table.plan c) r
          → Answers behaviour l n xs (asks_of s.table.plan c) r
      answered_so r h =
          let h1 = subst (λ plan. AnswersNow plan s.queue (held s.table) more (asks_of s.table.plan c) r) leads.plan_is h in
          let h2 = subst (λ q. AnswersNow (roster_of l) q (held s.table) more (asks_of s.table.plan c) r) leads.queue_is h1 in
          let h3 = subst (λ t. AnswersNow (roster_of l) (queue_after l xs) t more (asks_of s.table.plan c) r) leads.table_is h2 in
          answers_run behaviour l n xs more (asks_of s.table.plan c) r (λ e. more_so (shown_rest (book_on s.table.plan) c e)) h3

      pub turned_so : (r : Answer) → ReadsBack (enveloped_by no_tasks no_book) c.left
          → AnswersNow s.table.plan s.queue (held s.table) more (asks_of s.table.plan c) r
          → Turned behaviour l n [] (us ++ suc i ∷ []) (xs ++ (suc i, (asks_of s.table.plan c, r)) ∷ [])
      turned_so r back h =
          turned_step behaviour l n us xs (suc i) (asks_of s.table.plan c) r leads.by_turns.turned (worker_back back) (same_ask back) (answered_so r h)

      -- the cores are as they were, but for the one
      abbrev pub IsPut : List CoreView → CoreView → List CoreView → Type 0
      IsPut old d new = (length new ≡ length old)
          × ((j : ℕ) (e : CoreView) → slice_get new j ≡ Some e → ((j ≡ i) × (e ≡ d)) ⊎ ((j ≢ i) × (slice_get old j ≡ Some e)))

      pub stepped : (s' : TurnRun) (c' : CoreView) → IsWorker n (suc i) → (step : Stepped behaviour more c s.queue s.table c' s'.queue s'.table)
          → IsPut s.cores.items c' s'.cores.items
          → LeadsTo behaviour l n (us ++ suc i ∷ []) (xs ++ (suc i, (asks_of s.table.plan c, replied step.reply)) ∷ []) s'
      stepped s' c' own step put =
          let plan = leads.by_turns.plan in
          let p = suc i in
          let a = asks_of s.table.plan c in
          let r = replied step.reply in
          let x : Step = (p, (a, r)) in
          let ys = xs ++ x ∷ [] in
          let X = enveloped behaviour (roster_of l) in
          let was = leads.cores_are i c here in
          let asks_core : of_scripts a ≡ true = asks_of_scripts X (located (book_on s.table.plan) c.left) in
          let suits : Suits a r = suits_now (roster_of l) s.queue (held s.table) more a r asks_core
          (subst (λ z. AnswersNow z s.queue (held s.table) more a r) leads.plan_is step.answers) in
          let asks : a ≡ ask X (left_after X taking (scripts_of (by p xs))) = ap asked env_left in
          let back : ReadsBack X (left_after X taking (scripts_of (by p xs))) = back_there step.reads_back in
          let mine : IsCoreRun X taking (scripts_of (by p ys)) =
          subst (IsCoreRun X taking) (sym (ap scripts_of (by_more p xs (a, r)) ∙ scripts_more (by p xs) a r asks_core))
          (core_more X taking (scripts_of (by p xs)) (a, r) (leads.runs p) asks suits back) in
          let book = book_of l in
          let members = members_in (roster_of l) in
          let core_is : c' ≡ after_reply behaviour book c step.reply =
          step.core ∙ ap (λ z. after_reply behaviour (book_on z) c step.reply) leads.plan_is in
          let sound : Sound book (located book c.left) =
          subst (Sound book) (sym was.left) (run_sound behaviour book (λ g. refl) taking (scripts_of (by p xs)) tt) in
          let found : FoundOf book step.reply (next c) = subst (λ z. FoundOf (book_on z) step.reply (next c)) leads.plan_is step.found in
          let suits_here : Suits (asked (located book c.left)) r = subst (λ z. Suits (asked (located (book_on z) c.left)) r) leads.plan_is suits in
          let left_new : located book c'.left ≡ left_after X taking (scripts_of (by p ys)) =
          ap (λ d. located book d.left) core_is
          ∙ told_located behaviour book members c.left c.task step.reply sound found
          ∙ ap (λ z. answered X z r) was.left
          ∙ sym (ap (left_after X taking) (ap scripts_of (by_more p xs (a, r)) ∙ scripts_more (by p xs) a r asks_core)
          ∙ left_more X taking (scripts_of (by p xs)) (a, r)) in
          let here_too : held_by (standing.held c) (asked (located book c.left)) r ≡ held_by (standing.held c) a r =
          ap (λ z. held_by (standing.held c) (asked (located (book_on z) c.left)) r) (sym leads.plan_is) in
          let hold_old : standing.held c' ≡ held_by (standing.held c) a r =
          ap standing.held core_is ∙ book_told behaviour book members c.left c.kept c.task step.reply sound suits_here found ∙ here_too in
          let hold_new : held_by (held_after None (by p xs)) a r ≡ held_after None (by p ys) =
          sym (ap (held_after None) (by_more p xs (a, r)) ∙ held_append None (by p xs) ((a, r) ∷ [])) in
          let new : IsCoreAt behaviour l (by p ys) c' = record {
            left = left_new;
            is_in = ap (λ d. d.is_out) core_is;
            holds = hold_old ∙ ap (λ h. held_by h a r) was.holds ∙ hold_new;
            has_one = λ inside. subst IsSome (sym hold_old)
                (subst IsSome here_too
                (has_told behaviour (roster_of l) c.left c.kept c.task step.reply sound suits_here found was.has_one
                (ap is_inside (sym (ap (λ d. d.left) core_is)) ∙ inside)));
            task = λ inside.
                ap (λ d. d.task) core_is
                ∙ task_told behaviour book members c.left c.kept c.task step.reply sound suits_here found
                (λ j. was.task j ∙ ap (task_in book) (sym was.holds))
                (ap is_inside (sym (ap (λ d. d.left) core_is)) ∙ inside)
                ∙ ap (task_in book) here_too
                ∙ ap (λ h. task_in book (held_by h a r)) was.holds
                ∙ ap (task_in book) hold_new;
          } in
          record {
            by_turns = record {
              plan = plan;
              opens_back = leads.by_turns.opens_back;
              workers = each_more us p leads.by_turns.workers own;
              turned = turned_so r step.reads_back step.answers;
            };
            runs = λ q. runs_now q a r mine;
            queue_is = step.queue_is ∙ ap (λ q. queue_next q a) leads.queue_is ∙ sym (queue_more _ xs x);
            plan_is = step.plan_is ∙ leads.plan_is;
            table_is = step.table_is ∙ ap (λ t. results_next t a) leads.table_is ∙ sym (results_more _ xs x);
            many = put.0 ∙ leads.many;
            cores_are = λ j d e. core_now j d a r c' new (put.1 j d e);
          }
        where
          runs_now : (q : ℕ) (a : Asked) (r : Answer)
              → IsCoreRun (enveloped behaviour (roster_of l)) taking (scripts_of (by (suc i) (xs ++ (suc i, (a, r)) ∷ [])))
              → IsCoreRun (enveloped behaviour (roster_of l)) taking (scripts_of (by q (xs ++ (suc i, (a, r)) ∷ [])))
          runs_now q a r mine = go (eqb (suc i) q) refl
            where
              go : (b : Bool) → eqb (suc i) q ≡ b → IsCoreRun (enveloped behaviour (roster_of l)) taking (scripts_of (by q (xs ++ (suc i, (a, r)) ∷ [])))
              go true e = subst (λ m. IsCoreRun (enveloped behaviour (roster_of l)) taking (scripts_of (by m (xs ++ (suc i, (a, r)) ∷ []))))
                  (eqb-true (suc i) q e) mine
              go false e = subst (IsCoreRun (enveloped behaviour (roster_of l)) taking)
                  (sym (ap scripts_of (by_other q (suc i) xs (a, r) (eqb-false (suc i) q e)))) (leads.runs q)

          core_now : (j : ℕ) (d : CoreView) (a : Asked) (r : Answer) (c' : CoreView) → IsCoreAt behaviour l (by (suc i) (xs ++ (suc i, (a, r)) ∷ [])) c'
              → ((j ≡ i) × (d ≡ c')) ⊎ ((j ≢ i) × (slice_get s.cores.items j ≡ Some d)) → IsCoreAt behaviour l (by (suc j) (xs ++ (suc i, (a, r)) ∷ [])) d
          core_now j d a r c' new (inl h) =
              subst (λ m. IsCoreAt behaviour l (by (suc m) (xs ++ (suc i, (a, r)) ∷ [])) d) (sym h.0)
              (subst (IsCoreAt behaviour l (by (suc i) (xs ++ (suc i, (a, r)) ∷ []))) (sym h.1) new)
          core_now j d a r c' new (inr h) =
              let apart : suc i ≢ suc j = λ e. h.0 (omega (arith, e)) in
              subst (λ ys. IsCoreAt behaviour l ys d) (sym (by_other (suc j) (suc i) xs (a, r) apart)) (leads.cores_are j d h.1)
