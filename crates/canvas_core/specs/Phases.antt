-- What the parts of a core represent.
use Rattle.std.specs.Prelude.{◌≡◌, Bool, false, [], ◌∷◌, is_some, not, unwrap_or}
use Rattle.canvas_envelope.specs.MessageView.{carried_view}
use Rattle.canvas_effects.specs.Job.{store, publish, part}
use Rattle.canvas_history.specs.declared.stored.Stored.TheVariants.{First}
use Rattle.canvas_runs.specs.Core.{taking, resting, over, failed, owning, doing, reading, acking}
use Rattle.canvas_core.specs.EnvelopeWorker.{unapplied, blank}
use Rattle.canvas_core.specs.CoreState.{Left}
use Rattle.canvas_core.specs.Scripts.{jobs_of}
use Rattle.canvas_core.specs.declared.phase.Phase.{Phase}
use Rattle.canvas_core.specs.declared.phase.Phase.TheVariants.{Taking, Resting, Over, Failed, Owning, Storing, Publishing, Returning, Reading, Acking}

abbrev pub left_of : Phase → Left
left_of Taking = taking
left_of Resting = resting
left_of Over = over
left_of Failed = failed
left_of (Owning o) = owning (record { envelope = o.envelope; outcome = o.outcome })
left_of (Storing s) = doing (store s.task s.outcome ∷ jobs_of s.script) s.script.latest
left_of (Publishing p) =
    doing (publish (unapplied (unwrap_or p.envelope blank)) ∷ jobs_of p.script) p.script.latest
left_of (Returning p) = doing (part p.group p.task (carried_view p.chord) ∷ []) First
left_of Acking = acking
left_of (Reading r) = reading r.group r.chord 0 r.found.items

abbrev pub is_out : Phase → Bool
is_out (Publishing p) = not (is_some p.envelope)
is_out p = false

-- the phase is this point of the machine, with its envelope still there
abbrev pub IsAt : Phase → Left → Type 0
IsAt p s = (left_of p ≡ s) × (is_out p ≡ false)
