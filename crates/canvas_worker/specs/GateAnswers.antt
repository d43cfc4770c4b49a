-- What a worker does as its gate says. `go` is what the gate may answer to this worker for a task,
-- and `again` whether it may want the envelope of that task's message redelivered.
use Rattle.std.specs.Prelude.{◌≡◌, ℕ, Bool, true, false, Option, Some, None}
use Rattle.canvas_task.specs.Apply.{Behaviour}
use Rattle.canvas_runs.specs.Core.{is_inside}
use Rattle.canvas_runs.specs.declared.when.When.{When}
use Rattle.canvas_runs.specs.declared.when.When.TheVariants.{Early, Late}
use Rattle.canvas_core.specs.CoreState.{CoreView, next, point_at}
use Rattle.canvas_worker.specs.Polls.{WorkerView, Acted, Ends, EndsFor, Leaves, Redelivered}
use Rattle.canvas_core.specs.declared.cause.Cause.{Cause}
use Rattle.canvas_core.specs.declared.cause.Cause.TheVariants.{Memory, Stopped}
use Rattle.canvas_worker.specs.declared.record.Record.{Record}
use Rattle.canvas_worker.specs.declared.working.GateAnswer.{GateAnswer}
use Rattle.canvas_worker.specs.declared.working.GateAnswer.TheVariants.{Wait, Again, On}

abbrev pub unless_passed : Option (ℕ × When) → Option When → Option (ℕ × When)
unless_passed (Some (k, Early)) (Some Early) = None
unless_passed (Some (k, Late)) (Some Late) = None
unless_passed x p = x

-- where the gate is asked, with the task that it is asked for: the point that the open script has
-- reached, unless that is the latest one that the worker has passed
abbrev pub asks_at : CoreView → Option When → Option (ℕ × When)
asks_at s p = unless_passed (point_at s) p

abbrev pub passed_from : Option (ℕ × When) → Bool → Option When → Option When
passed_from (Some x) inside p = Some x.1
passed_from None true p = p
passed_from None false p = None

-- the latest point that the worker has passed, once it goes on from here; none between scripts
abbrev pub passed_at : CoreView → Option When → Option When
passed_at s p = passed_from (point_at s) (is_inside s.left) p

abbrev pub passed_after : CoreView → Option When → GateAnswer → Option When
passed_after s p Wait = p
passed_after s p said = passed_at s p

module _ (go : ℕ → Bool → Type 0) (again : ℕ → Type 0) where
  -- the gate lets the worker go on from here: before a first store it has said so
  abbrev pub LetsOn : Option (ℕ × When) → Type 0
  LetsOn (Some (k, Early)) = go k true
  LetsOn x = Unit {0}

  -- it holds the worker back, which it does only before a first store
  abbrev pub HoldsBack : Option (ℕ × When) → Type 0
  HoldsBack (Some (k, Early)) = go k false
  HoldsBack x = ⊥

  -- it wants the envelope again, which it does only where it is asked
  abbrev pub Wants : Option (ℕ × When) → Type 0
  Wants (Some x) = again x.0
  Wants None = ⊥

  abbrev pub Heard : Option (ℕ × When) → GateAnswer → Type 0
  Heard x Wait = HoldsBack x
  Heard x Again = LetsOn x × Wants x
  Heard x On = LetsOn x

  module _ (behaviour : Behaviour) (w : WorkerView) (p : Option When) where
    -- What a pending poll leaves of a worker and of the latest point that it has passed. If the
    -- gate holds the worker back, it is as it was.
    pub data Heeds (v : WorkerView) (q : Option When) : Type 0 where
      waits : HoldsBack (asks_at w.core p) → v ≡ w → q ≡ p → Heeds v q
      delivers : LetsOn (asks_at w.core p) → Wants (asks_at w.core p) → Redelivered w v
          → q ≡ passed_at w.core p → Heeds v q
      goes_on : LetsOn (asks_at w.core p) → Acted behaviour w v → q ≡ passed_at w.core p
          → Heeds v q

    -- and what a ready poll leaves: if the gate holds the worker back, it has only stopped
    pub data LeavesHeeding (r : Record) : Type 0 where
      stops : Leaves w (Some Stopped) r → LeavesHeeding r
      fails_again : LetsOn (asks_at w.core p) → Wants (asks_at w.core p)
          → Leaves w (Some Memory) r → LeavesHeeding r
      ends : LetsOn (asks_at w.core p) → Ends behaviour w r
          → EndsFor (next w.core) r.fault → LeavesHeeding r

    -- if the gate can only hold the worker back, nothing was done
    abbrev pub HeldBack : WorkerView → Option When → Type 0
    HeldBack v q =
        (k : ℕ) → asks_at w.core p ≡ Some (k, Early) → (go k true → ⊥) → (v ≡ w) × (q ≡ p)

    -- like `LeavesHeeding`, for each record that a worker may leave that has ended
    abbrev pub EndsHeeding : Option Cause → WorkerView → Type 0
    EndsHeeding fault v = (r : Record) → Leaves v fault r → LeavesHeeding r
