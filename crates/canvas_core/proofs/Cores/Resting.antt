-- A core rests only after a take that found nothing.
use Rattle.std.proofs.Common.{◌≡◌, ◌∙◌, ℕ, suc, Bool, true, false, cond, eqb, List, [], ◌∷◌, ◌++◌, length, Option, Some, None, refl, sym, subst}
use Rattle.canvas_task.specs.Apply.{Behaviour}
use Rattle.canvas_task.specs.declared.outcome.Outcome.{Outcome}
use Rattle.canvas_rewrite.specs.FrozenView.{PCarried}
use Rattle.canvas_effects.specs.Job.{Job, store, publish, part}
use Rattle.canvas_envelope.specs.declared.envelope.Envelope.{Envelope}
use Rattle.canvas_history.specs.declared.stored.Stored.{Stored}
use Rattle.canvas_history.specs.declared.stored.Stored.TheVariants.{First, Again}
use Rattle.canvas_history.specs.Roster.{Roster}
use Rattle.canvas_runs.specs.Core as C
use Rattle.canvas_history.specs.Table as table
use Rattle.canvas_history.specs.Queue as queue
use Rattle.canvas_runs.specs.Core.{from_queue, from_table, rested, taking, resting, over, failed, owning, doing, reading, settled, opens, owned, reads_next, job_done, answered, acking, acked}
use Rattle.canvas_runs.specs.Protocol.{Protocol}
use Rattle.canvas_runs.proofs.Runs.MoreAsks.{reads_cases}
use Rattle.canvas_core.specs.Asks.{Asked, Answer}
use Rattle.canvas_core.specs.EnvelopeWorker.{Applied, enveloped}
use Rattle.canvas_core.specs.CoreState.{Left, asked}

-- an ask other than a take
abbrev pub Busy : Asked → Type 0
Busy (C.to_queue queue.take) = ⊥
Busy a = Unit {0}

module _ (behaviour : Behaviour) (plan : Roster) where
  abbrev X : Protocol Envelope
  X = enveloped behaviour plan

  abbrev Jobs : Type 0
  Jobs = List (Job Applied PCarried Outcome)

  settled_never : (js : Jobs) (b : Stored) → settled X js b ≡ resting → ⊥
  settled_never [] b e = cc
  settled_never (store t o ∷ js) First e = cc
  settled_never (store t o ∷ js) Again e = cc
  settled_never (publish m ∷ js) First e = cc
  settled_never (publish m ∷ js) Again e = cc
  settled_never (part g t c ∷ js) First e = cc
  settled_never (part g t c ∷ js) Again e = cc

  opens_never : (o : Option Applied) → opens X o ≡ resting → ⊥
  opens_never None e = cc
  opens_never (Some m) e = cc

  owned_never : (m : Applied) (a : Stored) → owned X m a ≡ resting → ⊥
  owned_never m First e = settled_never (X.ended m (X.outcome m)) First e
  owned_never m Again e = cc

  next_never : (g : ℕ) (c : PCarried) (fs : List (ℕ × Outcome)) → reads_next X g c fs ≡ resting → ⊥
  next_never g c fs = reads_cases X (λ s. s ≡ resting → ⊥) g c fs (λ n e. cc) (λ t n e. cc)

  counted_never : (g : ℕ) (c : PCarried) (z : Bool) → ◌≡◌ {A = Left} (cond z (reads_next X g c []) acking) resting → ⊥
  counted_never g c true e = next_never g c [] e
  counted_never g c false e = cc

  read_never : (g : ℕ) (c : PCarried) (fs : List (ℕ × Outcome)) (z : Bool) → cond z (settled X (X.completed c fs) Again) (reads_next X g c fs) ≡ resting → ⊥
  read_never g c fs true e = settled_never (X.completed c fs) Again e
  read_never g c fs false e = next_never g c fs e

  job_never : (j : Job Applied PCarried Outcome) (js : Jobs) (b : Stored) (r : Answer) → job_done X j js b r ≡ resting → ⊥
  job_never (store t o) js b (from_table (table.was a)) e = settled_never js (cond (C.is_due t js) a b) e
  job_never (publish m) js b (from_queue None) e = settled_never js b e
  job_never (part g t c) js b (from_table (table.count n)) e = counted_never g c (eqb (suc n) (X.size c)) e
  job_never j js b r e = cc

  pub given_never : (x : Envelope) → answered X taking (from_queue (Some x)) ≡ resting → ⊥
  given_never x e = opens_never (X.opened x) e

  never_rests : (s : Left) (r : Answer) → (asked s ≡ C.to_queue queue.take → ⊥) → answered X s r ≡ resting → ⊥
  never_rests taking r not e = not refl
  never_rests resting (rested true) not e = cc
  never_rests resting (rested false) not e = cc
  never_rests resting r not e = cc
  never_rests over r not e = cc
  never_rests failed r not e = cc
  never_rests (owning m) (from_table (table.was a)) not e = owned_never m a e
  never_rests (owning m) r not e = cc
  never_rests (doing [] b) r not e = cc
  never_rests (doing (j ∷ js) b) r not e = job_never j js b r e
  never_rests (reading g c t fs) (from_table (table.found (Some o))) not e =
      read_never g c (fs ++ (t, o) ∷ []) (eqb (length (fs ++ (t, o) ∷ [])) (X.size c)) e
  never_rests (reading g c t fs) (from_table (table.found None)) not e = cc
  never_rests (reading g c t fs) r not e = cc
  never_rests acking acked not e = cc
  never_rests acking r not e = cc

  pub busy_never : (s : Left) (r : Answer) (a : Asked) → asked s ≡ a → Busy a → answered X s r ≡ resting → ⊥
  busy_never s r a is busy rests = never_rests s r (λ takes. subst (λ b. Busy b) (sym is ∙ takes) busy) rests
