-- Facts about a text that was parsed.
use Rattle.std.proofs.Common.{◌≡◌, ◌≢◌, Option, Some, None, Err, refl}
use Rattle.serde_json.specs.Data.{Data}
use Rattle.canvas_values.specs.declared.fault.SigFault.{SigFault}
use Rattle.canvas_values.specs.declared.fault.SigFault.TheVariants.{Memory}
use Rattle.canvas_values.specs.Answers.{Fails}
use Rattle.canvas_values.specs.steps.Reading as sig
use Rattle.canvas_envelope.specs.declared.fault.MessageFault.TheVariants.{NotJson}
use Rattle.canvas_codec.specs.steps.Reading.{some_or}

-- one that doesn't read
pub nothing_read : (o : Option Data) (e : SigFault) → Fails e (sig.json_reading o) → e ≢ Memory → some_or NotJson o ≡ Err NotJson
nothing_read None e h other = refl
nothing_read (Some x) Memory h other = absurd (other refl)
nothing_read (Some x) e h other = absurd cc
