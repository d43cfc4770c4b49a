-- What a core has left names only what its book knows, at every point of a core run.
use Rattle.std.proofs.Common.{◌≡◌, ◌∙◌, ◌<◌, ◌+◌, ℕ, suc, Bool, true, false, cond, List, [], ◌∷◌, ◌++◌, length-append, Option, Some, None, refl, sym, ap, arith}
use Rattle.std.specs.Prelude.{eqb, length, map}
use Rattle.std.proofs.lemmas.Bool.{eqb-true, eqb-false}
use Rattle.canvas_task.specs.Apply.{Behaviour}
use Rattle.canvas_task.specs.declared.outcome.Outcome.{Outcome}
use Rattle.canvas_rewrite.specs.FrozenView.{PCarried}
use Rattle.canvas_envelope.specs.Content.{Content, number_of}
use Rattle.canvas_effects.specs.Effects.{after, body_after, script}
use Rattle.canvas_effects.specs.Job.{store, publish, part}
use Rattle.canvas_envelope.specs.declared.envelope.Envelope.{Envelope}
use Rattle.canvas_history.specs.declared.stored.Stored.{Stored}
use Rattle.canvas_history.specs.declared.stored.Stored.TheVariants.{First, Again}
use Rattle.canvas_history.specs.Table as table
use Rattle.canvas_runs.specs.Book.{Book, line_known, message_known}
use Rattle.canvas_runs.specs.Protocol.{Protocol}
use Rattle.canvas_runs.specs.Worker.{opened}
use Rattle.canvas_runs.proofs.Runs.MoreAsks.{reads_cases}
use Rattle.canvas_runs.specs.Core as C
use Rattle.canvas_runs.specs.Core.{taking, owning, doing, reading, from_queue, from_table, answered, left_after, settled, opens, acking}
use Rattle.canvas_core.specs.Asks.{Asked, Answer}
use Rattle.canvas_core.specs.Books.{IsFromOne}
use Rattle.canvas_core.specs.EnvelopeWorker as enveloping
use Rattle.canvas_core.specs.EnvelopeWorker.{enveloped_by}
use Rattle.canvas_core.specs.CoreState.{Left}
use Rattle.canvas_core.specs.Scripts.{EnvelopeJobs}
use Rattle.canvas_core.specs.SeatRights.{Carries, InBook}
use Rattle.canvas_core.proofs.Books.KnownJobs.{StoredIn, Behind, ended_jobs, body_jobs, ended_known, body_known}
use Rattle.canvas_core.proofs.Books.KnownScripts.{script_known}
use Rattle.canvas_core.proofs.Books.Opening.{opened_as}
use Rattle.canvas_core.proofs.Books.Sendable.{said_of}

-- a member that is read is the one that the book has at its place
abbrev pub Sound : Book → Left → Type 0
Sound book (owning m) = opened book m.envelope ≡ Some (enveloping.said m.envelope)
Sound book (doing js b) = InBook book js
Sound book (reading g c t fs) = Carries book g c × (length fs < c.size) × (book.member g (length fs) ≡ Some t)
Sound book s = Unit {0}

-- places below the size of a header
pub first_low : (n size : ℕ) → suc n ≡ size → 0 < size
first_low n size full = omega (arith, full)

pub more_low : (fs : List (ℕ × Outcome)) (e : ℕ × Outcome) (size : ℕ) → length fs < size → eqb (length (fs ++ e ∷ [])) size ≡ false
    → length (fs ++ e ∷ []) < size
more_low fs e size low is =
    let more : length (fs ++ e ∷ []) ≡ length fs + 1 = length-append fs (e ∷ []) in
    let apart = eqb-false (length (fs ++ e ∷ [])) size is in omega (arith, more, apart, low)

module _ (behaviour : Behaviour) (book : Book) where
  abbrev X : Protocol Envelope
  X = enveloped_by behaviour book

  settled_sound : (js : EnvelopeJobs) (b : Stored) → InBook book js → Sound book (settled X js b)
  settled_sound [] b h = tt
  settled_sound (store t o ∷ js) First h = h
  settled_sound (store t o ∷ js) Again h = h
  settled_sound (publish e ∷ js) First h = h
  settled_sound (publish e ∷ js) Again h = h
  settled_sound (part g t c ∷ js) First h = h
  settled_sound (part g t c ∷ js) Again h = tt

  opens_sound : (e : Envelope) (o : Option Content) → opened book e ≡ o → Sound book (opens X (enveloping.applied_if behaviour o e))
  opens_sound e None is = tt
  opens_sound e (Some c) is = is ∙ ap Some (sym (said_of e c (opened_as book e c is).0))

  next_sound : (g : ℕ) (c : PCarried) (fs : List (ℕ × Outcome)) → Carries book g c → length fs < c.size → Sound book (C.reads_next X g c fs)
  next_sound g c fs h low = reads_cases X (Sound book) g c fs (λ e. tt) (λ t e. (h, low, e))

  -- where a part may be the last of its header, and where a member was read
  counted_sound : (g : ℕ) (c : PCarried) (n : ℕ) (z : Bool) → Carries book g c → eqb (suc n) c.size ≡ z
      → Sound book (cond z (C.reads_next X g c []) acking)
  counted_sound g c n true h e = next_sound g c [] h (first_low n c.size (eqb-true (suc n) c.size e))
  counted_sound g c n false h e = tt

  module _ (from_one : IsFromOne book) where
    ended_in : (c : Content) (o : Outcome) → message_known book c ≡ true → InBook book (map enveloping.enclosed (script (after c o)))
    ended_in c o h = script_known book (Behind (number_of c.own) (ended_jobs c o)) (ended_jobs c o) (ended_known book from_one c o h)

    body_in : (c : PCarried) (es : List (ℕ × Outcome)) → line_known book c.body ≡ true → InBook book (map enveloping.enclosed (script (body_after c es)))
    body_in c es h = script_known book (StoredIn (body_jobs c es)) (body_jobs c es) (body_known book from_one c es h)

    read_sound : (g : ℕ) (c : PCarried) (fs : List (ℕ × Outcome)) (t : ℕ) (o : Outcome) (z : Bool) → Carries book g c → length fs < c.size
        → eqb (length (fs ++ (t, o) ∷ [])) c.size ≡ z
        → Sound book (cond z (settled X (X.completed c (fs ++ (t, o) ∷ [])) Again) (C.reads_next X g c (fs ++ (t, o) ∷ [])))
    read_sound g c fs t o true h low e = settled_sound (X.completed c (fs ++ (t, o) ∷ [])) Again (body_in c (fs ++ (t, o) ∷ []) h.1)
    read_sound g c fs t o false h low e = next_sound g c (fs ++ (t, o) ∷ []) h (more_low fs (t, o) c.size low e)

    pub step_sound : (s : Left) (r : Answer) → Sound book s → Sound book (answered X s r)
    step_sound taking (from_queue (Some e)) h = opens_sound e (opened book e) refl
    step_sound (owning m) (from_table (table.was First)) h =
        settled_sound (X.ended m (X.outcome m)) First
        (ended_in (enveloping.said m.envelope) m.outcome (opened_as book m.envelope (enveloping.said m.envelope) h).1)
    step_sound (doing (store t o ∷ js) b) (from_table (table.was a)) h = settled_sound js (cond (C.is_due t js) a b) h.1
    step_sound (doing (publish e ∷ js) b) (from_queue None) h = settled_sound js b h
    step_sound (doing (part g t c ∷ js) b) (from_table (table.count n)) h = counted_sound g c n (eqb (suc n) c.size) h.1 refl
    step_sound (reading g c t fs) (from_table (table.found (Some o))) h =
        read_sound g c fs t o (eqb (length (fs ++ (t, o) ∷ [])) c.size) h.0 h.1 refl
    step_sound taking (from_queue None) h = tt
    step_sound C.resting (C.rested true) h = tt
    step_sound C.resting (C.rested false) h = tt
    step_sound (owning m) (from_table (table.was Again)) h = tt
    step_sound (reading g c t fs) (from_table (table.found None)) h = tt
    step_sound acking C.acked h = tt
    step_sound s r h = tt

    pub run_sound : (s : Left) (xs : List (Asked × Answer)) → Sound book s → Sound book (left_after X s xs)
    run_sound s [] h = h
    run_sound s (x ∷ xs) h = run_sound (answered X s x.1) xs (step_sound s x.1 h)
