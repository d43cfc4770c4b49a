-- What a new worker's record says if its backend is that of a plan, in terms of the worker that the
-- law of runs speaks of.
use Rattle.std.specs.Prelude.{◌≡◌, ℕ, Bool, true, None}
use Rattle.canvas_task.specs.Apply.{Behaviour}
use Rattle.canvas_history.specs.Passes.{QueueId, Empties}
use Rattle.canvas_semantics.specs.Line.{Line}
use Rattle.canvas_rewrite.specs.FrozenView.{PCarried}
use Rattle.canvas_rewrite.specs.Planned.{IsPlan}
use Rattle.canvas_envelope.specs.Content.{Content}
use Rattle.canvas_history.specs.Seats.{BackendView}
use Rattle.canvas_history.specs.Roster.{Roster, roster_of}
use Rattle.canvas_runs.specs.Following.{Pass, Seat, Working, Followed, starting, IsOver}
use Rattle.canvas_history.specs.Lists.{Each}
use Rattle.canvas_runs.specs.Worker.{worker_of}
use Rattle.canvas_worker.specs.Polls.{Ready, IsWanted, TellsOf, working_begun, tally_of}
use Rattle.canvas_worker.specs.declared.record.Record.{Record}

-- The record's pass and seat have followed a core run from where the worker got them, and the gate
-- may have wanted each redelivery. A record has no points, so it doesn't say what `go` answered.
-- Without a fault the last ask was a rest answered with no more, and the last take found nothing.
pub record Finished (behaviour : Behaviour) (may_want : ℕ → ℕ → Type 0) (plan : Roster) (number : ℕ)
    (pass : Pass) (seat : Seat) (r : Record) : Type 0 where
  pub same_number : r.number ≡ number
  pub ended : Working Content PCarried
  pub followed : Followed (worker_of behaviour plan) plan (starting pass seat) ended
  pub wanted : Each (IsWanted (may_want number) plan) followed.made
  pub pass_is : r.pass ≡ ended.pass
  pub seat_is : r.seat ≡ ended.seat
  pub counts : tally_of r ≡ ended.tally
  pub done : r.fault ≡ None → IsOver ended
  pub empty : r.fault ≡ None → Empties r.pass

-- a new worker may be polled
abbrev pub WorkersStart : Type 0
WorkersStart =
    (l : Line) → IsPlan l
    → (broker : QueueId) (backend : BackendView) (number : ℕ) (pass : Pass) (seat : Seat)
    → backend.plan ≡ roster_of l → pass.of ≡ broker → seat.of ≡ backend.id
    → Ready (working_begun broker backend number pass seat)

-- and its record says so, for any gate
abbrev pub WorkersFinish : Type 0
WorkersFinish =
    (behaviour : Behaviour) (wanted : ℕ → ℕ → Bool) (l : Line) → IsPlan l
    → (broker : QueueId) (backend : BackendView) (number : ℕ) (pass : Pass) (seat : Seat)
    → backend.plan ≡ roster_of l → (r : Record)
    → TellsOf behaviour (λ p k. wanted p k ≡ true) (working_begun broker backend number pass seat) r
    → Finished behaviour (λ p k. wanted p k ≡ true) (roster_of l) number pass seat r
