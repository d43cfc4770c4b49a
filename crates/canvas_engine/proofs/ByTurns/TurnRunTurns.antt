-- A worker's turn: what the queue, the table and the worker's core were tells what may be asked, and what is there after it.
use Rattle.std.proofs.Common.{◌≡◌, ◌≢◌, ◌<◌, ◌-◌, ◌⊎◌, inl, inr, ℕ, zero, suc, Bool, true, false, List, [], ◌∷◌, ◌++◌, length, Option, Some, refl, sym, ap, ◌∙◌, subst, arith}
use Rattle.std.specs.Prelude.{◌||◌, IsSome, get_or, slice_get, slice_set}
use Rattle.std.proofs.lemmas.Option.{slice_get_read}
use Rattle.std.specs.List.{list_any}
use Rattle.canvas_task.specs.Apply.{Behaviour, AnswersInRange}
use Rattle.canvas_semantics.specs.Line.{Line}
use Rattle.canvas_history.specs.Table.{Results, store, part, read}
use Rattle.canvas_backend.specs.Plain.{held}
use Rattle.canvas_history.specs.Roster.{Roster, roster_of}
use Rattle.canvas_runs.specs.Core.{to_table, taking, doing, reading, ReadsBack, is_inside}
use Rattle.canvas_runs.specs.TurnLaws.{Answerable}
use Rattle.canvas_runs.specs.Turns.{Step, IsWorker, HasEnded, results_after, results_next, is_queued}
use Rattle.canvas_runs.proofs.ByTurns.TurnLaw.{next_answerable, held_range}
use Rattle.canvas_runs.proofs.ByTurns.Redeliveries.{again_skip}
use Rattle.canvas_runs.proofs.ByTurns.Turning.{results_more, turned_skip}
use Rattle.canvas_effects.specs.Job as job
use Rattle.canvas_history.specs.Lists.{by}
use Rattle.canvas_runs.specs.Book.{book_of, book_on}
use Rattle.canvas_runs.specs.Calls.{scripts_of}
use Rattle.canvas_core.specs.Asks.{Asked}
use Rattle.canvas_core.specs.Books.{no_book}
use Rattle.canvas_core.specs.EnvelopeWorker.{enveloped_by, no_tasks}
use Rattle.canvas_core.specs.CoreState as standing
use Rattle.canvas_core.specs.CoreState.{CoreView, Left, located, next, next_in}
use Rattle.canvas_core.specs.declared.ask.Ask.TheVariants.{Rest, End}
use Rattle.canvas_core.proofs.Cores.Sound.{Sound, run_sound}
use Rattle.canvas_engine.specs.steps.Noting.{Noted}
use Rattle.canvas_engine.specs.steps.TurnRuns.{asks_of, step_now, IsThere, MayAsk, AreInRange, Stepped, IsTried, Tried, store_answer, counted_on, Redelivers, LeadsTo, Given, Reached, HasReached, IsTurn, IsHalfway, IsStopped}
use Rattle.canvas_engine.specs.declared.by_turns.turn_run.TurnRun.{TurnRun}
use Rattle.canvas_engine.proofs.ByTurns.TurnRunAgain.{one_turn, stood}
use Rattle.canvas_engine.proofs.ByTurns.TurnRunSteps.{each_more, has_ended, not_ended, same_ask, more_is, turned_so}

-- what is there after a core was put back at its place
put_at : (cores : List CoreView) (i : ℕ) (d : CoreView) (j : ℕ) (e : CoreView) → slice_get (slice_set cores i d) j ≡ Some e
    → ((j ≡ i) × (e ≡ d)) ⊎ ((j ≢ i) × (slice_get cores j ≡ Some e))
put_at [] i d j e h = inr ((λ q. absurd (nothing j h)), h)
  where
    nothing : (k : ℕ) → slice_get [] k ≡ Some e → ⊥
    nothing zero h = cc
    nothing (suc k) h = cc
put_at (c ∷ cs) zero d zero e h = inl (refl, cc)
put_at (c ∷ cs) zero d (suc j) e h = inr ((λ q. absurd (omega (arith, q))), h)
put_at (c ∷ cs) (suc i) d zero e h = inr ((λ q. absurd (omega (arith, q))), h)
put_at (c ∷ cs) (suc i) d (suc j) e h = further (put_at cs i d j e h)
  where
    further : ((j ≡ i) × (e ≡ d)) ⊎ ((j ≢ i) × (slice_get cs j ≡ Some e)) → ((suc j ≡ suc i) × (e ≡ d)) ⊎ ((suc j ≢ suc i) × (slice_get cs j ≡ Some e))
    further (inl x) = inl (ap suc x.0, x.1)
    further (inr x) = inr ((λ q. x.0 (omega (arith, q))), x.1)

put_length : (cores : List CoreView) (i : ℕ) (d : CoreView) → length (slice_set cores i d) ≡ length cores
put_length [] i d = refl
put_length (c ∷ cs) zero d = refl
put_length (c ∷ cs) (suc i) d = ap suc (put_length cs i d)

-- what can be answered may be asked
may_of : (plan : Roster) (xs : List Step) (a : Asked) → Answerable plan xs a → MayAsk plan (results_after xs) a
may_of plan xs (to_table (store t o)) h = h.0
may_of plan xs (to_table (part g t)) h = (h.0, h.1, (h.2, h.3))
may_of plan xs (to_table (read t)) h = h.0
may_of plan xs a h = tt

member_there : (plan : Roster) (s : Left) (x : Option ℕ) → Sound (book_on plan) (located (book_on plan) s) → IsThere plan (next_in s x)
member_there plan (reading g c t fs) x h = subst (λ o. IsSome o) (sym h.2) refl
member_there plan (doing [] b) x h = tt
member_there plan (doing (job.store t o ∷ js) b) x h = tt
member_there plan (doing (job.publish e ∷ js) b) x h = tt
member_there plan (doing (job.part g t c ∷ js) b) x h = tt
member_there plan s x h = tt

same_core : (cores : List CoreView) (i : ℕ) (c d : CoreView) → slice_get cores i ≡ Some c → slice_get cores i ≡ Some d → c ≡ d
same_core cores i c d e f = let both : Some c ≡ Some d = sym e ∙ f in cc

abbrev pub HasTurn : (behaviour : Behaviour) → Line → ℕ → TurnRun → Type 0
HasTurn behaviour l p s = (n : ℕ) × (most : ℕ) × (es : Given) × (us : List ℕ) × IsWorker n p × HasReached behaviour l n most es us s

module _ (behaviour : Behaviour) (fits : AnswersInRange behaviour) (l : Line) (p : ℕ) (s : TurnRun) (turn : HasTurn behaviour l p s) where
  pub is_place : p - 1 < length s.cores.items
  is_place = omega (arith, turn.4.0, turn.4.1, turn.5.1.leads.many)

  same_number : suc (p - 1) ≡ p
  same_number = omega (arith, turn.4.0)

  -- the worker's core, and what is there once its envelope may have been delivered again
  module _ (first : CoreView) (is_first : first ≡ get_or s.cores.items (p - 1) first) where
    pub here_first : slice_get s.cores.items (p - 1) ≡ Some first
    here_first = slice_get_read s.cores.items _ (p - 1) first refl is_place is_first

    module _ (t : TurnRun) (gone : (c : CoreView) → slice_get s.cores.items (p - 1) ≡ Some c → Redelivers p c s t) where
      pub others : (t.table ≡ s.table) × (t.cores ≡ s.cores) × (t.steps ≡ s.steps) × (t.repeats ≡ s.repeats)
      others = (gone first here_first).others

      pub place_then : p - 1 < length t.cores.items
      place_then = subst (λ cs. p - 1 < length cs.items) (sym others.1) is_place

      module _ (core : CoreView) (is_core : core ≡ get_or t.cores.items (p - 1) core) where
        pub core_then : slice_get t.cores.items (p - 1) ≡ Some core
        core_then = slice_get_read t.cores.items _ (p - 1) core refl place_then is_core

        pub core_now : slice_get s.cores.items (p - 1) ≡ Some core
        core_now = ap (λ cs. slice_get cs.items (p - 1)) (sym others.1) ∙ core_then

        pub unchanged : first ≡ core
        unchanged = same_core s.cores.items (p - 1) first core here_first core_now

  module _ (core : CoreView) (here : slice_get s.cores.items (p - 1) ≡ Some core) where
    pub not_out : core.is_out ≡ false
    not_out = (turn.5.1.leads.cores_are (p - 1) core here).is_in

    pub has_open : is_inside core.left ≡ true → IsSome (standing.held core)
    has_open = (turn.5.1.leads.cores_are (p - 1) core here).has_one

    module _ (n most : ℕ) (es : Given) (us : List ℕ) (xs : List Step) (reached : Reached behaviour l n most es us xs s) where
      own : IsWorker n p
      own = (turn.4.0, omega (arith, turn.4.1, turn.5.1.leads.many, reached.leads.many))

      own_place : IsWorker n (suc (p - 1))
      own_place = subst (IsWorker n) (sym same_number) own

      pub skipped : ReadsBack (enveloped_by no_tasks no_book) core.left → next core ≡ End
          → HasEnded behaviour l xs p × Reached behaviour l n most es (us ++ p ∷ []) xs s
      skipped back e =
          let leads = reached.leads in
          let ended : HasEnded behaviour l xs p =
          subst (HasEnded behaviour l xs) same_number (has_ended behaviour l n us xs s leads (p - 1) core here back e) in (
            ended,
            record {
              leads = record {
                by_turns = record {
                  plan = leads.by_turns.plan;
                  opens_back = leads.by_turns.opens_back;
                  workers = each_more us p leads.by_turns.workers own;
                  turned = turned_skip behaviour l n us xs p leads.by_turns.turned ended;
                };
                runs = leads.runs;
                queue_is = leads.queue_is;
                plan_is = leads.plan_is;
                table_is = leads.table_is;
                many = leads.many;
                cores_are = leads.cores_are;
              };
              turned = again_skip behaviour l n es.0 us xs s.again.items reached.turned p ended;
              agains = reached.agains;
              count = reached.count;
              keeps = reached.keeps;
              noted = reached.noted;
            },
          )

      pub stopped : ReadsBack (enveloped_by no_tasks no_book) core.left → (next core ≡ End → ⊥) → s.steps ≡ 0 → IsStopped behaviour l n most es us s
      stopped back going none = record {
        steps = xs;
        reached = reached;
        none_left = none;
        going = p;
        is_worker = own;
        has_more = λ e. not_ended behaviour l n us xs s reached.leads (p - 1) core here back going (subst (HasEnded behaviour l xs) (sym same_number) e);
      }

      may_here : ReadsBack (enveloped_by no_tasks no_book) core.left → MayAsk (roster_of l) (results_after xs) (asks_of s.table.plan core)
      may_here back =
          may_of (roster_of l) xs (asks_of s.table.plan core)
          (subst (Answerable (roster_of l) xs) (sym (same_ask behaviour l n us xs s reached.leads (p - 1) core here back))
          (next_answerable behaviour l n us xs reached.leads.by_turns fits (suc (p - 1)) own_place))

      pub may_ask : ReadsBack (enveloped_by no_tasks no_book) core.left → MayAsk s.table.plan (held s.table) (asks_of s.table.plan core)
      may_ask back =
          subst (λ plan. MayAsk plan (held s.table) (asks_of s.table.plan core)) (sym reached.leads.plan_is)
          (subst (λ t. MayAsk (roster_of l) t (asks_of s.table.plan core)) (sym reached.leads.table_is) (may_here back))

      -- a member that is read is there
      pub is_there : IsThere s.table.plan (next core)
      is_there =
          let at = reached.leads.cores_are (p - 1) core here in
          subst (λ plan. IsThere plan (next core)) (sym reached.leads.plan_is)
          (member_there (roster_of l) core.left core.task (subst (Sound (book_of l)) (sym at.left)
          (run_sound behaviour (book_of l) (λ g. refl) taking (scripts_of (by (suc (p - 1)) xs)) tt)))

      pub held_in_range : AreInRange (held s.table)
      held_in_range t o e = (held_range behaviour l n us xs reached.leads.by_turns fits t o (ap (λ (r : Results). r.outcomes t) (sym reached.leads.table_is)
          ∙ e)).1

      module _ (t : TurnRun) (gone : Redelivers p core s t) (more : Bool) (told : next core ≡ Rest
          → more ≡ (is_queued t.queue || list_any (λ c. is_inside c.left) t.cores.items)) where
        here_then : slice_get t.cores.items (p - 1) ≡ Some core
        here_then = ap (λ z. slice_get z.items (p - 1)) gone.others.1 ∙ here

        gone_there : Redelivers (suc (p - 1)) core s t
        gone_there = subst (λ q. Redelivers q core s t) (sym same_number) gone

        pub went : (s' : TurnRun) (core' : CoreView) → Stepped behaviour more core t.queue t.table core' s'.queue s'.table
            → s'.cores.items ≡ slice_set t.cores.items (p - 1) core' → t.steps ≡ suc s'.steps
            → s'.repeats ≡ counted_on t.repeats (store_answer (held t.table) (asks_of t.table.plan core)) → s'.again.items ≡ t.again.items
            → Noted t.notes (step_now p t.table.plan t.queue (held t.table) more (asks_of t.table.plan core) ∷ []) s'.notes
            → IsTurn behaviour true l n most es us xs p s'
        went s' core' step put fewer said kept noted =
            subst (λ q. IsTurn behaviour true l n most es us xs q s') same_number
            (one_turn behaviour l n most es us xs s reached (p - 1) core here own_place t gone_there more told s' core' step (
              ap length put ∙ put_length t.cores.items (p - 1) core',
              λ j e h. put_at t.cores.items (p - 1) core' j e (ap (λ cs. slice_get cs j) (sym put) ∙ h),
            ) fewer said kept
            (subst (λ q. Noted t.notes (step_now q t.table.plan t.queue (held t.table) more (asks_of t.table.plan core) ∷ []) s'.notes)
            (sym same_number) noted))

        pub halfway : (s' : TurnRun) → IsTried behaviour more core t.queue t.table s'.table → IsHalfway behaviour l n s'
        halfway s' tried = go (stood behaviour l n us xs s reached.leads (p - 1) core here own_place t gone_there) tried.1
          where
            go : ((ys : List Step) × LeadsTo behaviour l n us ys t) → (held s'.table ≡ held t.table) ⊎ Tried behaviour more core t.queue t.table s'.table
                → IsHalfway behaviour l n s'
            go (ys, leads) (inl same) =
                record { turns = us; steps = ys; by_turns = leads.by_turns; plan_is = tried.0 ∙ leads.plan_is; table_is = same ∙ leads.table_is }
            go (ys, leads) (inr r) =
                let x : Step = (suc (p - 1), (asks_of t.table.plan core, r.reply)) in
                record {
                  turns = us ++ suc (p - 1) ∷ [];
                  steps = ys ++ x ∷ [];
                  by_turns = record {
                    plan = leads.by_turns.plan;
                    opens_back = leads.by_turns.opens_back;
                    workers = each_more us (suc (p - 1)) leads.by_turns.workers own_place;
                    turned = turned_so behaviour l n us ys t leads (p - 1) core here_then more
                        (λ e. told e ∙ more_is behaviour l n us ys t leads) r.reply r.reads_back r.answers;
                  };
                  plan_is = tried.0 ∙ leads.plan_is;
                  table_is = r.table_is ∙ ap (λ z. results_next z (asks_of t.table.plan core)) leads.table_is ∙ sym (results_more _ ys x);
                }

pub one_fewer : (k : ℕ) → (k ≡ 0 → ⊥) → k ≡ suc (k - 1)
one_fewer zero h = absurd (h refl)
one_fewer (suc k) h = omega arith
