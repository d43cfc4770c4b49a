-- A core run over envelopes is one of the worker over what they say.
use Rattle.std.proofs.Common.{◌≡◌, ◌∙◌, ℕ, suc, Bool, true, false, cond, eqb, List, [], ◌∷◌, ◌++◌, map, length, Option, Some, None, refl, sym, ap, ap₂, subst}
use Rattle.canvas_task.specs.Apply.{Behaviour}
use Rattle.canvas_task.specs.declared.outcome.Outcome.{Outcome}
use Rattle.canvas_semantics.specs.Line.{Line}
use Rattle.canvas_rewrite.specs.FrozenView.{PCarried}
use Rattle.canvas_envelope.specs.Content.{Content, number_of}
use Rattle.canvas_effects.specs.Effects.{outcome_of, after, body_after, script}
use Rattle.canvas_effects.specs.Job.{Job}
use Rattle.canvas_envelope.specs.declared.envelope.Envelope.{Envelope}
use Rattle.canvas_history.specs.declared.stored.Stored.{Stored}
use Rattle.canvas_history.specs.declared.stored.Stored.TheVariants.{First, Again}
use Rattle.canvas_history.specs.Roster.{roster_of}
use Rattle.canvas_effects.specs.Job as job
use Rattle.canvas_runs.specs.Book.{Book, book_on}
use Rattle.canvas_history.specs.Table as table
use Rattle.canvas_history.specs.Queue as queue
use Rattle.canvas_runs.specs.Core.{to_queue, to_table, from_queue, from_table, rested, CoreState, taking, resting, over, failed, owning, doing, reading as state_reading, is_due, settled, opens, owned, reading_of, reads_next, job_done, ask, answered, ReadsBack, Between, left_after, IsCoreRun, acking, acked}
use Rattle.canvas_runs.specs.Protocol.{Protocol}
use Rattle.canvas_runs.specs.Worker.{worker, opened}
use Rattle.canvas_core.specs.Asks.{Asked, Answer}
use Rattle.canvas_core.specs.Cores.{IsAlike, GoTogether, CoresAreWorkers}
use Rattle.canvas_core.specs.EnvelopeWorker.{Applied, said, enclosed, enveloped, applied_if as kept_envelope}
use Rattle.canvas_core.specs.CoreState.{Left}
use Rattle.canvas_core.proofs.Books.Opening.{opened_as}
use Rattle.canvas_core.proofs.Books.Sendable.{envelope_so, said_of}

module _ (behaviour : Behaviour) (l : Line) where
  abbrev X : Protocol Envelope
  X = enveloped behaviour (roster_of l)

  abbrev Y : Protocol Envelope
  Y = worker behaviour l

  abbrev Doing : Type 0
  Doing = CoreState Content PCarried

  abbrev Jobs : Type 0
  Jobs = List (Job Content PCarried Outcome)

  abbrev book : Book
  book = book_on (roster_of l)

  -- ---- scripts

  settled_alike : (ks : Jobs) (b : Stored) → IsAlike behaviour (settled X (map enclosed ks) b) (settled Y ks b)
  settled_alike [] b = tt
  settled_alike (job.store t o ∷ ks) First = (refl, refl)
  settled_alike (job.store t o ∷ ks) Again = (refl, refl)
  settled_alike (job.publish c ∷ ks) First = (refl, refl)
  settled_alike (job.publish c ∷ ks) Again = (refl, refl)
  settled_alike (job.part g t c ∷ ks) First = (refl, refl)
  settled_alike (job.part g t c ∷ ks) Again = tt

  due_alike : (t : ℕ) (ks : Jobs) → is_due t (map enclosed ks) ≡ is_due t ks
  due_alike t [] = refl
  due_alike t (job.store u o ∷ ks) = due_alike t ks
  due_alike t (job.publish c ∷ ks) = due_alike t ks
  due_alike t (job.part g u c ∷ ks) = refl

  -- ---- the next member

  next_alike : (g : ℕ) (c : PCarried) (fs : List (ℕ × Outcome)) → IsAlike behaviour (reads_next X g c fs) (reads_next Y g c fs)
  next_alike g c fs = go (book.member g (length fs))
    where
      go : (o : Option ℕ) → IsAlike behaviour (reading_of X g c fs o) (reading_of Y g c fs o)
      go None = tt
      go (Some t) = (refl, (refl, (refl, refl)))

  -- ---- jobs

  job_alike : (k : Job Content PCarried Outcome) (ks : Jobs) (b : Stored) (r : Answer)
      → IsAlike behaviour (job_done X (enclosed k) (map enclosed ks) b r) (job_done Y k ks b r)
  job_alike (job.store t o) ks b (from_table (table.was a)) =
      subst (λ z. IsAlike behaviour (settled X (map enclosed ks) (cond z a b)) (settled Y ks (cond (is_due t ks) a b))) (sym (due_alike t ks))
      (settled_alike ks (cond (is_due t ks) a b))
  job_alike (job.publish c) ks b (from_queue None) = settled_alike ks b
  job_alike (job.part g t c) ks b (from_table (table.count n)) = part_alike (eqb (suc n) c.size)
    where
      part_alike : (z : Bool) → IsAlike behaviour (cond z (reads_next X g c []) acking) (cond z (reads_next Y g c []) acking)
      part_alike true = next_alike g c []
      part_alike false = tt
  job_alike (job.store t o) ks b r = tt
  job_alike (job.publish c) ks b r = tt
  job_alike (job.part g t c) ks b r = tt

  -- ---- what was taken

  opens_alike : (e : Envelope) (o : Option Content) → opened book e ≡ o → IsAlike behaviour (opens X (kept_envelope behaviour o e)) (opens Y o)
  opens_alike e None is = tt
  opens_alike e (Some c) is =
      let same : said e ≡ c = said_of e c (opened_as book e c is).0 in
      (same, ap (outcome_of behaviour) same)

  -- ---- members

  read_alike : (g : ℕ) (c : PCarried) (fs : List (ℕ × Outcome)) (z : Bool)
      → IsAlike behaviour (cond z (settled X (map enclosed (script (body_after c fs))) Again) (reads_next X g c fs))
      (cond z (settled Y (script (body_after c fs)) Again) (reads_next Y g c fs))
  read_alike g c fs true = settled_alike (script (body_after c fs)) Again
  read_alike g c fs false = next_alike g c fs

  -- ---- answers

  step_owning : (m : Applied) (c : Content) → said m.envelope ≡ c → m.outcome ≡ outcome_of behaviour c → (a : Stored)
      → IsAlike behaviour (owned X m a) (owned Y c a)
  step_owning m c is value First =
      subst (λ d. IsAlike behaviour (owned X m First) (settled Y (script (after d (outcome_of behaviour c))) First)) is
      (subst (λ o. IsAlike behaviour (owned X m First) (settled Y (script (after (said m.envelope) o)) First)) value
      (settled_alike (script (after (said m.envelope) m.outcome)) First))
  step_owning m c is value Again = tt

  step_doing : (js : List (Job Applied PCarried Outcome)) (b : Stored) (ks : Jobs) (d : Stored) (r : Answer) → js ≡ map enclosed ks → b ≡ d
      → IsAlike behaviour (answered X (doing js b) r) (answered Y (doing ks d) r)
  step_doing js b [] d r is same = subst (λ x. IsAlike behaviour (answered X (doing x b) r) failed) (sym is) tt
  step_doing js b (k ∷ ks) d r is same =
      subst (λ x. IsAlike behaviour (answered X (doing x b) r) (job_done Y k ks d r)) (sym is)
      (subst (λ x. IsAlike behaviour (job_done X (enclosed k) (map enclosed ks) b r) (job_done Y k ks x r)) same (job_alike k ks b r))

  step_reading : (g : ℕ) (c : PCarried) (t : ℕ) (fs : List (ℕ × Outcome)) (r : Answer)
      → IsAlike behaviour (answered X (state_reading g c t fs) r) (answered Y (state_reading g c t fs) r)
  step_reading g c t fs (from_table (table.found (Some o))) = read_alike g c (fs ++ (t, o) ∷ []) (eqb (length (fs ++ (t, o) ∷ [])) c.size)
  step_reading g c t fs (from_table (table.found None)) = tt
  step_reading g c t fs r = tt

  step_taking : (r : Answer) → IsAlike behaviour (answered X taking r) (answered Y taking r)
  step_taking (from_queue None) = tt
  step_taking (from_queue (Some e)) = opens_alike e (opened book e) refl
  step_taking r = tt

  step_resting : (r : Answer) → IsAlike behaviour (answered X resting r) (answered Y resting r)
  step_resting (rested true) = tt
  step_resting (rested false) = tt
  step_resting r = tt

  step_acking : (r : Answer) → IsAlike behaviour (answered X acking r) (answered Y acking r)
  step_acking acked = tt
  step_acking r = tt

  step_own : (m : Applied) (c : Content) (r : Answer) → said m.envelope ≡ c → m.outcome ≡ outcome_of behaviour c
      → IsAlike behaviour (answered X (owning m) r) (answered Y (owning c) r)
  step_own m c (from_table (table.was a)) is value = step_owning m c is value a
  step_own m c r is value = tt

  step : (s : Left) (t : Doing) (r : Answer) → IsAlike behaviour s t → IsAlike behaviour (answered X s r) (answered Y t r)
  step taking taking r a = step_taking r
  step resting resting r a = step_resting r
  step over over r a = tt
  step failed failed r a = tt
  step acking acking r a = step_acking r
  step (owning m) (owning c) r a = step_own m c r a.0 a.1
  step (doing js b) (doing ks d) r a = step_doing js b ks d r a.0 a.1
  step (state_reading g c t fs) (state_reading h d u gs) r a =
      subst (λ x. IsAlike behaviour (answered X (state_reading g c t fs) r) (answered Y (state_reading x d u gs) r)) a.0
      (subst (λ x. IsAlike behaviour (answered X (state_reading g c t fs) r) (answered Y (state_reading g x u gs) r)) a.1.0
      (subst (λ x. IsAlike behaviour (answered X (state_reading g c t fs) r) (answered Y (state_reading g c x gs) r)) a.1.1.0
      (subst (λ x. IsAlike behaviour (answered X (state_reading g c t fs) r) (answered Y (state_reading g c t x) r)) a.1.1.1 (step_reading g c t fs r))))
  step s t r a = absurd a

  -- ---- asks

  job_asks : (k : Job Content PCarried Outcome) (ks : Jobs) (b d : Stored) → ReadsBack X (doing (enclosed k ∷ map enclosed ks) b)
      → (ask Y (doing (k ∷ ks) d) ≡ ask X (doing (enclosed k ∷ map enclosed ks) b)) × ReadsBack Y (doing (k ∷ ks) d)
  job_asks (job.store t o) ks b d back = (refl, tt)
  job_asks (job.publish c) ks b d back = let so = envelope_so c back in (ap (λ e. to_queue (queue.publish e)) (sym so.0), so.1)
  job_asks (job.part g t c) ks b d back = (refl, tt)

  jobs_ask : (js : List (Job Applied PCarried Outcome)) (b : Stored) (ks : Jobs) (d : Stored) → js ≡ map enclosed ks → ReadsBack X (doing js b)
      → (ask Y (doing ks d) ≡ ask X (doing js b)) × ReadsBack Y (doing ks d)
  jobs_ask js b [] d is back = subst (λ x. (ask Y (doing [] d) ≡ ask X (doing x b)) × ReadsBack Y (doing [] d)) (sym is) (refl, tt)
  jobs_ask js b (k ∷ ks) d is back =
      subst (λ x. (ask Y (doing (k ∷ ks) d) ≡ ask X (doing x b)) × ReadsBack Y (doing (k ∷ ks) d)) (sym is)
      (job_asks k ks b d (subst (λ x. ReadsBack X (doing x b)) is back))

  asks : (s : Left) (t : Doing) → IsAlike behaviour s t → ReadsBack X s → (ask Y t ≡ ask X s) × ReadsBack Y t
  asks taking taking a back = (refl, tt)
  asks resting resting a back = (refl, tt)
  asks over over a back = (refl, tt)
  asks failed failed a back = (refl, tt)
  asks acking acking a back = (refl, tt)
  asks (owning m) (owning c) a back = (ap₂ (λ (d : Content) (o : Outcome). to_table (table.store (number_of d.own) o)) (sym a.0) (sym a.1), tt)
  asks (doing js b) (doing ks d) a back = jobs_ask js b ks d a.0 back
  asks (state_reading g c t fs) (state_reading h d u gs) a back = (ap (λ k. to_table (table.read k)) (sym a.1.1.0), tt)
  asks s t a back = absurd a

  -- ---- between scripts

  closed_alike : (s : Left) (t : Doing) → IsAlike behaviour s t → Between s → Between t
  closed_alike taking taking a h = tt
  closed_alike resting resting a h = tt
  closed_alike over over a h = tt
  closed_alike failed failed a h = h
  closed_alike acking acking a h = h
  closed_alike (owning e) (owning c) a h = h
  closed_alike (doing js b) (doing ks d) a h = h
  closed_alike (state_reading g c t fs) (state_reading k d u gs) a h = h
  closed_alike s t a h = absurd a

  closes_alike : (s : Left) (t : Doing) → IsAlike behaviour s t → Between t → Between s
  closes_alike taking taking a h = tt
  closes_alike resting resting a h = tt
  closes_alike over over a h = tt
  closes_alike failed failed a h = h
  closes_alike acking acking a h = h
  closes_alike (owning e) (owning c) a h = h
  closes_alike (doing js b) (doing ks d) a h = h
  closes_alike (state_reading g c t fs) (state_reading k d u gs) a h = h
  closes_alike s t a h = absurd a

  -- ---- whole runs

  together : (s : Left) (t : Doing) → IsAlike behaviour s t → GoTogether behaviour l s t
  together s t a = record {
    alike = a;
    asks = λ back. (asks s t a back).0;
    reads_back = λ back. (asks s t a back).1;
    closed = closed_alike s t a;
    closes = closes_alike s t a;
  }

  pub carried : (s : Left) (t : Doing) (xs : List (Asked × Answer)) → IsAlike behaviour s t → IsCoreRun X s xs
      → IsCoreRun Y t xs × GoTogether behaviour l (left_after X s xs) (left_after Y t xs)
  carried s t [] a run = (tt, together s t a)
  carried s t (x ∷ xs) a run =
      let here = asks s t a run.1.1 in
      let after = carried (answered X s x.1) (answered Y t x.1) xs (step s t x.1 a) run.2 in
      ((run.0 ∙ sym here.0, (run.1.0, here.1), after.0), after.1)

pub cores_are_workers : CoresAreWorkers
cores_are_workers behaviour l xs run = carried behaviour l taking taking xs tt run
