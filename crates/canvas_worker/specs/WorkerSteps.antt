-- The steps of a worker: an ask of its core answered by its pass or its seat or from the envelopes
-- that it holds, and a batch taken.
use Rattle.std.specs.Prelude.{◌≡◌, List, [], ◌∷◌, ◌++◌, Some, None}
use Rattle.canvas_task.specs.Apply.{Behaviour}
use Rattle.canvas_envelope.specs.declared.envelope.Envelope.{Envelope}
use Rattle.canvas_history.specs.Roster.{Roster}
use Rattle.canvas_history.specs.Queue.{take, redeliver}
use Rattle.canvas_history.specs.Passes as passes
use Rattle.canvas_runs.specs.Core.{Ask, Reply, to_queue, from_queue, ask, answered, Suits, ReadsBack}
use Rattle.canvas_runs.specs.Following.{Makes, Serves}
use Rattle.canvas_runs.specs.Calls.{broker_call, backend_call, held_by}
use Rattle.canvas_runs.specs.Tally.{Counted}
use Rattle.canvas_core.specs.EnvelopeWorker.{enveloped}
use Rattle.canvas_core.specs.CoreState.{Progress}

-- an envelope is taken from the broker only if none is held
abbrev pub OnlyBare : Ask Envelope → Reply Envelope → List Envelope → Type 0
OnlyBare (to_queue take) (from_queue (Some e)) held = held ≡ []
OnlyBare a r held = Unit

module _ (behaviour : Behaviour) (plan : Roster) where
  -- the core's next ask, answered
  pub record Answered (w v : Progress) (a : Ask Envelope) (r : Reply Envelope) :
      Type 0 where
    pub asked : a ≡ ask (enveloped behaviour plan) w.left
    pub suits : Suits a r
    pub back : ReadsBack (enveloped behaviour plan) w.left
    pub counts : Counted plan ((a, r) ∷ []) w.tally v.tally
    pub left : v.left ≡ answered (enveloped behaviour plan) w.left r
    pub current : v.current ≡ held_by w.current a r

  abbrev pub AnsweredByCall : Progress → Progress → Ask Envelope → Reply Envelope → Type 0
  AnsweredByCall w v a r =
      Answered w v a r × (v.held ≡ w.held) × OnlyBare a r w.held
      × Makes w.pass (broker_call a r) v.pass × Serves plan w.seat (backend_call a r) v.seat

  abbrev pub FromHeld : Progress → Progress → Envelope → Type 0
  FromHeld w v e =
      Answered w v (to_queue take) (from_queue (Some e)) × (w.held ≡ e ∷ v.held) × (v.pass ≡ w.pass)
      × (v.seat ≡ w.seat)

-- a batch is taken, and none of it is given to the core yet
abbrev pub Batched : Progress → Progress → List Envelope → Type 0
Batched w v es =
    (v.held ≡ w.held ++ es) × passes.Took w.pass es v.pass × (v.seat ≡ w.seat) × (v.left ≡ w.left)
    × (v.tally ≡ w.tally) × (v.current ≡ w.current)

-- the envelope of the open script is redelivered
abbrev pub Delivered : Progress → Progress → Envelope → Type 0
Delivered w v e =
    (w.current ≡ Some e) × Makes w.pass ((redeliver e, None) ∷ []) v.pass × (v.current ≡ w.current)
    × (v.held ≡ w.held) × (v.seat ≡ w.seat) × (v.left ≡ w.left) × (v.tally ≡ w.tally)
