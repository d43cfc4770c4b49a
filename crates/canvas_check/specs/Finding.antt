-- The refusal of a text, and its place.
use Rattle.std.specs.Prelude.{◌≡◌, List, Option, Some, None, Ok, Err}
use Rattle.serde_json.specs.Data.{Data}
use Rattle.serde_json.specs.Find.{pointer}
use Rattle.canvas_task.specs.Text.{Text}
use Rattle.canvas_semantics.specs.Tree.{Tree}
use Rattle.canvas_values.specs.CanvasText.{json_of, text_reading}
use Rattle.canvas_values.specs.declared.fault.SigFault.{SigFault}
use Rattle.canvas_values.specs.declared.fault.SigFault.TheVariants.{TooLarge}
use Rattle.canvas_check.specs.FileOrder.{Sighted}
use Rattle.canvas_check.specs.Limits.{place_of}
use Rattle.canvas_check.specs.Pointer.{pointer_text}
use Rattle.canvas_check.specs.declared.finding.Spot.{Spot}
use Rattle.canvas_check.specs.declared.finding.Spot.TheVariants as spot
use Rattle.canvas_check.specs.declared.step.Step.{Step}
use Rattle.canvas_check.specs.declared.finding.Finding.{Finding}

-- The steps lead to the first signature of the text that has the refusal. Their text, as a JSON
-- Pointer (RFC 6901), leads there too.
pub record IsPlace (d : Data) (fault : SigFault) (steps : List Step) : Type 0 where
  pub place : Sighted
  pub first : place_of fault d ≡ Some place
  pub steps_are : place.steps ≡ steps
  pub leads : pointer (pointer_text steps) d ≡ Some place.signature

abbrev pub IsSpot : Data → SigFault → Spot → Type 0
IsSpot d fault spot.Text = place_of fault d ≡ None
IsSpot d fault (spot.Json line column) = ⊥
IsSpot d fault (spot.Signature steps) = IsPlace d fault steps.items

abbrev pub IsJsonSpot : Spot → Type 0
IsJsonSpot (spot.Json line column) = Unit {0}
IsJsonSpot at = ⊥

abbrev pub StandsAt : Text → SigFault → Spot → Type 0
StandsAt bytes fault (spot.Json line column) = json_of bytes ≡ None
StandsAt bytes fault at = (d : Data) × (json_of bytes ≡ Some d) × IsSpot d fault at

-- A refused text is too large, is not JSON, or has the refusal at a signature.
abbrev pub IsFoundAs : Text → SigFault → Spot → Type 0
IsFoundAs bytes TooLarge at = at ≡ spot.Text
IsFoundAs bytes fault at = StandsAt bytes fault at

abbrev pub IsFound : Text → Option Finding → Type 0
IsFound bytes None = (c : Tree) × (text_reading bytes ≡ Ok c)
IsFound bytes (Some f) = (text_reading bytes ≡ Err f.fault) × IsFoundAs bytes f.fault f.spot
