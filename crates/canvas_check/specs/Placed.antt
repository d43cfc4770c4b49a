-- A text of JSON that is refused is refused at a signature, unless it is too large to be read.
use Rattle.std.specs.Prelude.{◌≡◌, ◌≢◌, Some, Err, IsSome}
use Rattle.serde_json.specs.Data.{Data}
use Rattle.canvas_task.specs.Text.{Text}
use Rattle.canvas_values.specs.CanvasText.{json_of, text_reading}
use Rattle.canvas_values.specs.declared.fault.SigFault.{SigFault}
use Rattle.canvas_values.specs.declared.fault.SigFault.TheVariants.{TooLarge}
use Rattle.canvas_check.specs.Finding.{IsFound}
use Rattle.canvas_check.specs.Limits.{place_of}
use Rattle.canvas_check.specs.declared.finding.Finding.{Finding}
use Rattle.canvas_check.specs.declared.finding.Spot.TheVariants as spot

-- a text with this refusal has a signature as its place
abbrev pub HasPlace : SigFault → Type 0
HasPlace fault =
    (bytes : Text) (d : Data) → json_of bytes ≡ Some d → text_reading bytes ≡ Err fault
    → IsSome (place_of fault d)

abbrev pub EachHasPlace : Type 0
EachHasPlace = (fault : SigFault) → fault ≢ TooLarge → HasPlace fault

-- a finding refers to the text as a whole only if the text is too large
abbrev pub WholeIsTooLarge : Type 0
WholeIsTooLarge =
    (bytes : Text) (f : Finding) → IsFound bytes (Some f) → f.spot ≡ spot.Text
    → f.fault ≡ TooLarge
