-- A step before a followed run gives a followed run, and a worker that does nothing has followed
-- the empty run.
use Rattle.std.specs.Prelude.{◌≡◌, List, [], Option, Some}
use Rattle.canvas_task.specs.Apply.{Behaviour}
use Rattle.canvas_envelope.specs.declared.envelope.Envelope.{Envelope}
use Rattle.canvas_history.specs.Roster.{Roster}
use Rattle.canvas_history.specs.Callers.{told}
use Rattle.canvas_history.specs.History.{calls}
use Rattle.canvas_history.specs.Queue.{QueueCall, take, HasTaken}
use Rattle.canvas_history.specs.Passes.{Stands}
use Rattle.canvas_runs.specs.Following.{Pass}
use Rattle.canvas_runs.specs.Core.{Ask, Reply}
use Rattle.canvas_core.specs.CoreState.{Progress, HasFollowed}
use Rattle.canvas_runs.specs.Tally.{IsTally}
use Rattle.canvas_worker.specs.WorkerSteps.{AnsweredByCall, FromHeld, Batched, Delivered}

abbrev pub Rests : Type 0
Rests =
    (behaviour : Behaviour) (plan : Roster) (w : Progress) → IsTally w.tally
    → HasFollowed behaviour plan w w

abbrev pub CallFirst : Type 0
CallFirst =
    (behaviour : Behaviour) (plan : Roster) (w v x : Progress) (a : Ask Envelope)
    (r : Reply Envelope) → AnsweredByCall behaviour plan w v a r → HasFollowed behaviour plan v x
    → HasFollowed behaviour plan w x

abbrev pub HeldFirst : Type 0
HeldFirst =
    (behaviour : Behaviour) (plan : Roster) (w v x : Progress) (e : Envelope)
    → FromHeld behaviour plan w v e → HasFollowed behaviour plan v x
    → HasFollowed behaviour plan w x

abbrev pub BatchFirst : Type 0
BatchFirst =
    (behaviour : Behaviour) (plan : Roster) (w v x : Progress) (es : List Envelope) → Batched w v es
    → HasFollowed behaviour plan v x → HasFollowed behaviour plan w x

abbrev pub AgainFirst : Type 0
AgainFirst =
    (behaviour : Behaviour) (plan : Roster) (w v x : Progress) (e : Envelope) → Delivered w v e
    → HasFollowed behaviour plan v x → HasFollowed behaviour plan w x

-- A pass may redeliver what it has just taken. What it might redeliver before, it still may after a
-- call of its own.
abbrev pub TakenCan : Type 0
TakenCan =
    (p q : Pass) (e : Envelope) → Stands p (calls p.name take (Some e)) q
    → HasTaken (told q) q.name e

abbrev pub StillCan : Type 0
StillCan =
    (p q : Pass) (d : QueueCall Envelope) (a : Option Envelope) → Stands p (calls p.name d a) q
    → (e : Envelope) → p.owed ≡ [] → HasTaken (told p) p.name e → HasTaken (told q) q.name e
