-- What the answer to an ask of a core leaves, where the queue and the table have changed as they should.
use Rattle.std.proofs.Common.{◌≡◌, inr, ℕ, Bool, List, [], ◌∷◌, Option, Result, Ok, Err, OnOk, OnErr, refl, sym, ap, ◌∙◌, subst}
use Rattle.canvas_task.specs.Apply.{Behaviour}
use Rattle.canvas_envelope.specs.declared.envelope.Envelope.{Envelope}
use Rattle.canvas_history.specs.declared.stored.Stored.{Stored}
use Rattle.canvas_history.specs.declared.stored.Stored.TheVariants.{First}
use Rattle.canvas_history.specs.Table as table
use Rattle.canvas_history.specs.Table.{Results}
use Rattle.canvas_backend.specs.Plain.{PlainView, held}
use Rattle.canvas_history.specs.Roster.{Roster}
use Rattle.canvas_runs.specs.Core as C
use Rattle.canvas_runs.specs.Core.{ReadsBack}
use Rattle.canvas_runs.specs.Turns.{queue_next, results_next}
use Rattle.canvas_core.specs.Asks.{Asked, FoundOf, replied}
use Rattle.canvas_effects.specs.Job.{store, publish, part}
use Rattle.canvas_runs.specs.Book.{Book, book_on}
use Rattle.canvas_core.specs.Books.{no_book}
use Rattle.canvas_core.specs.EnvelopeWorker.{enveloped_by, no_tasks}
use Rattle.canvas_core.specs.CoreState.{CoreView, Left, located, asked, next, next_in, after_reply}
use Rattle.canvas_core.specs.declared.ask.Reply.{Reply}
use Rattle.canvas_core.specs.declared.ask.Ask.{Ask}
use Rattle.canvas_core.specs.declared.ask.Ask.TheVariants as A
use Rattle.canvas_engine.specs.steps.TurnRuns.{asks_of, AnswersNow, Stepped, IsTried, store_answer, counted_on}

-- ---- an answered ask

module _ (behaviour : Behaviour) {E : Type 0} (result : Result (Unit {0}) E) (more : Bool) (c c' : CoreView) (queue queue' : List Envelope)
    (table table' : PlainView) (a : Asked) (r : Reply) (is : asks_of table.plan c ≡ a) where
  -- the core's own answer, where the queue and the table have changed as they should
  pub answered_ok : AnswersNow table.plan queue (held table) more a (replied r) → FoundOf (book_on table.plan) r (next c)
      → ReadsBack (enveloped_by no_tasks no_book) c.left → queue' ≡ queue_next queue a → held table' ≡ results_next (held table) a → table'.plan ≡ table.plan
      → OnOk result (c' ≡ after_reply behaviour (book_on table'.plan) c r) → OnOk result (Stepped behaviour more c queue table c' queue' table')
  answered_ok answers found back q t plan ok = go result ok
    where
      go : (x : Result (Unit {0}) E) → OnOk x (c' ≡ after_reply behaviour (book_on table'.plan) c r)
          → OnOk x (Stepped behaviour more c queue table c' queue' table')
      go (Ok u) e = record {
        reply = r;
        answers = subst (λ z. AnswersNow table.plan queue (held table) more z (replied r)) (sym is) answers;
        found = found;
        reads_back = back;
        core = e ∙ ap (λ p. after_reply behaviour (book_on p) c r) plan;
        queue_is = q ∙ ap (queue_next queue) (sym is);
        table_is = t ∙ ap (results_next (held table)) (sym is);
        plan_is = plan;
      }
      go (Err x) e = tt

  pub answered_err : AnswersNow table.plan queue (held table) more a (replied r) → ReadsBack (enveloped_by no_tasks no_book) c.left
      → held table' ≡ results_next (held table) a → table'.plan ≡ table.plan
      → OnErr result (IsTried behaviour more c queue table table')
  answered_err answers back t plan = go result
    where
      go : (x : Result (Unit {0}) E) → OnErr x (IsTried behaviour more c queue table table')
      go (Ok u) = tt
      go (Err x) = (
        plan,
        inr (record {
          reply = replied r;
          answers = subst (λ z. AnswersNow table.plan queue (held table) more z (replied r)) (sym is) answers;
          reads_back = back;
          table_is = t ∙ ap (results_next (held table)) (sym is);
        }),
      )

pub of_each : {E : Type 0} (result : Result (Unit {0}) E) (P : Bool → Type 0) → ((b : Bool) → OnOk result (P b)) → OnOk result ((b : Bool) → P b)
of_each (Ok u) P h = h
of_each (Err x) P h = tt

-- ---- what the table says

pub stored_says : (x y : Stored) → table.was x ≡ table.was y → x ≡ y
stored_says x y e = cc

-- ---- stores that answer Again

-- the same of an ask as it is shown
abbrev pub shown_again : Results → Ask → Stored
shown_again s (A.Store t o) = table.first_or (s.outcomes t)
shown_again s v = First

again_shown : (s : Results) (book : Book) (left : Left) (x : Option ℕ) → store_answer s (asked (located book left)) ≡ shown_again s (next_in left x)
again_shown s book C.taking x = refl
again_shown s book C.resting x = refl
again_shown s book C.over x = refl
again_shown s book C.failed x = refl
again_shown s book (C.owning m) x = refl
again_shown s book (C.doing [] b) x = refl
again_shown s book (C.doing (store t o ∷ js) b) x = refl
again_shown s book (C.doing (publish e ∷ js) b) x = refl
again_shown s book (C.doing (part g t c ∷ js) b) x = refl
again_shown s book (C.reading g c t fs) x = refl
again_shown s book C.acking x = refl

-- an ask that is no store isn't counted
pub none_counted : (s : Results) (plan : Roster) (c : CoreView) (v : Ask) (m : ℕ) → v ≡ next c → shown_again s v ≡ First
    → m ≡ counted_on m (store_answer s (asks_of plan c))
none_counted s plan c v m is none = sym (ap (counted_on m) (again_shown s (book_on plan) c.left c.task ∙ (ap (shown_again s) (sym is) ∙ none)))
