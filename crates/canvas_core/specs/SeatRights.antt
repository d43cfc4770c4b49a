-- What a backend lets a worker's seat do: all that the worker has left to do, at any progress of
-- other workers. It follows from what is left and from what the seat has seen, for each envelope
-- that is opened, also for one that no plan's run has.
use Rattle.std.specs.Prelude.{◌≡◌, ◌≤◌, ◌<◌, ℕ, true, false, IsTrue, [], ◌∷◌, length, Some, slice_get}
use Rattle.canvas_task.specs.Apply.{Behaviour}
use Rattle.canvas_semantics.specs.Line.{Line}
use Rattle.canvas_rewrite.specs.FrozenView.{PCarried}
use Rattle.canvas_rewrite.specs.Planned.{IsPlan}
use Rattle.canvas_effects.specs.Job.{publish}
use Rattle.canvas_history.specs.declared.stored.Stored.{Stored}
use Rattle.canvas_history.specs.declared.stored.Stored.TheVariants.{First}
use Rattle.canvas_history.specs.Table as table
use Rattle.canvas_history.specs.Table.{MayReturn}
use Rattle.canvas_history.specs.Roster.{Roster, roster_of, members, is_chord, is_member}
use Rattle.canvas_effects.specs.Job as job
use Rattle.canvas_runs.specs.Book.{Book, book_on, has_size, line_known}
use Rattle.canvas_runs.specs.Calls.{backend_call}
use Rattle.canvas_runs.specs.Core.{to_table, taking, owning, doing, reading, answered, is_due, Suits}
use Rattle.canvas_runs.specs.Following.{Seat, Serves}
use Rattle.canvas_runs.specs.Worker.{opened}
use Rattle.canvas_core.specs.Asks.{Asked, Answer}
use Rattle.canvas_core.specs.EnvelopeWorker.{said, enveloped}
use Rattle.canvas_core.specs.Scripts.{EnvelopeJobs}
use Rattle.canvas_core.specs.CoreState.{Left, asked}

module _ (book : Book) where
  -- what a member of this chord carries names only what the book knows
  abbrev pub Carries : ℕ → PCarried → Type 0
  Carries g c = (has_size c.size (book.size g) ≡ true) × (line_known book c.body ≡ true)

  -- each task that is stored is known, and each part is that of a chord's member
  abbrev pub InBook : EnvelopeJobs → Type 0
  InBook [] = Unit {0}
  InBook (job.store t o ∷ js) = IsTrue (book.knows t) × InBook js
  InBook (publish e ∷ js) = InBook js
  InBook (job.part g t c ∷ js) = IsTrue (book.is_member g t) × Carries g c × InBook js

module _ (plan : Roster) where
  -- The seat may return the part that is due if its task's latest store was the first, unless that
  -- task is still to be stored.
  abbrev pub MayReturnDue : Seat → Stored → EnvelopeJobs → Type 0
  MayReturnDue s b [] = Unit {0}
  MayReturnDue s b (job.store t o ∷ js) = is_due t js ≡ false → MayReturnDue s b js
  MayReturnDue s b (publish e ∷ js) = MayReturnDue s b js
  MayReturnDue s b (job.part g t c ∷ js) = b ≡ First → MayReturn plan s.seen s.name t

  -- a part comes next only if that store was the first
  abbrev pub IsNext : Stored → EnvelopeJobs → Type 0
  IsNext b (job.part g t c ∷ js) = b ≡ First
  IsNext b js = Unit {0}

  -- the backend lets the seat do what is left to do
  abbrev pub Can : Seat → Left → Type 0
  Can s (owning m) = opened (book_on plan) m.envelope ≡ Some (said m.envelope)
  Can s (doing js b) = InBook (book_on plan) js × MayReturnDue s b js × IsNext b js
  Can s (reading g c t fs) =
      Carries (book_on plan) g c × (length fs < c.size)
      × (slice_get (members plan g) (length fs) ≡ Some t)
  Can s left = Unit {0}

  -- the backend lets the seat ask this
  abbrev pub LetsAsk : Seat → Asked → Type 0
  LetsAsk s (to_table (table.store t o)) = t ≤ plan.tasks
  LetsAsk s (to_table (table.part g t)) =
      IsTrue (is_chord plan g) × IsTrue (is_member plan g t) × MayReturn plan s.seen s.name t
  LetsAsk s (to_table (table.read t)) = t ≤ plan.tasks
  LetsAsk s a = Unit {0}

-- a worker that waits for an envelope can go on
abbrev pub WaitingCan : Type 0
WaitingCan = (plan : Roster) (s : Seat) → Can plan s taking

-- what can be done may be asked
abbrev pub CanAsk : Type 0
CanAsk =
    (l : Line) → IsPlan l → (s : Seat) (left : Left) → Can (roster_of l) s left
    → LetsAsk (roster_of l) s (asked left)

-- and once it is asked and answered, and the seat has made the call, what is left can be done
abbrev pub CanGoOn : Type 0
CanGoOn =
    (behaviour : Behaviour) (l : Line) → IsPlan l → (s t : Seat) (left : Left) (r : Answer)
    → Can (roster_of l) s left → Suits (asked left) r
    → Serves (roster_of l) s (backend_call (asked left) r) t
    → Can (roster_of l) t (answered (enveloped behaviour (roster_of l)) left r)
