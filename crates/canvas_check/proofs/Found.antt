-- What is found in a text.
use Rattle.std.proofs.Common.{◌≡◌, ◌≤◌, Bool, true, false, Option, Some, None, Ok, arith, option_map, refl, sym, ap, ◌∙◌}
use Rattle.std.specs.Prelude.{if◌then◌else◌}
use Rattle.std.specs.Str.{is_utf8}
use Rattle.serde_json.specs.Data.{Data, depth}
use Rattle.serde_json.specs.Read.{read}
use Rattle.serde_json.proofs.Nesting.{depth-read}
use Rattle.canvas_task.specs.Text.{Text}
use Rattle.canvas_values.specs.CanvasText.{json_of}
use Rattle.canvas_values.specs.declared.fault.SigFault.{SigFault}
use Rattle.canvas_values.specs.steps.Reading.{json_reading}
use Rattle.canvas_check.specs.Places.{shown}
use Rattle.canvas_check.specs.Limits.{place_of}
use Rattle.canvas_check.specs.Pointer.{AreIndices}
use Rattle.canvas_check.specs.Finding.{IsPlace, IsSpot, StandsAt}
use Rattle.canvas_check.specs.declared.listing.Place.{Place}
use Rattle.canvas_check.specs.declared.finding.Spot.{Spot}
use Rattle.canvas_check.specs.declared.finding.Spot.TheVariants as spot
use Rattle.canvas_check.proofs.Leads.{place_leads}

pub place_found : (e : SigFault) (d : Data) (o : Option Place) (p : Place) → option_map shown o ≡ place_of e d → o ≡ Some p → AreIndices p.steps.items
    → IsPlace d e p.steps.items
place_found e d o p found is fit =
    let first : place_of e d ≡ Some (shown p) = sym found ∙ ap (option_map shown) is in
    record { place = shown p; first = first; steps_are = refl; leads = place_leads e d (shown p) first fit }

pub stands : (bytes : Text) (d : Data) (e : SigFault) (at : Spot) → json_of bytes ≡ Some d → IsSpot d e at → StandsAt bytes e at
stands bytes d e spot.Text is h = (d, is, h)
stands bytes d e (spot.Json line column) is h = absurd h
stands bytes d e (spot.Signature steps) is h = (d, is, h)

-- ---- JSON texts

read_of : (b : Bool) (o : Option Data) (d : Data) → (if b then o else None) ≡ Some d → o ≡ Some d
read_of true o d h = h
read_of false o d h = absurd cc

-- what reads nests no deeper than a listing goes
pub low_enough : (bytes : Text) (d : Data) → json_of bytes ≡ Some d → depth d ≤ 128
low_enough bytes d h = let low = depth-read bytes d (read_of (is_utf8 bytes) (read bytes) d h) in omega (arith, low)

was_json : (o : Option Data) (d : Data) → json_reading o ≡ Ok d → o ≡ Some d
was_json None d h = absurd cc
was_json (Some x) d h = let same : x ≡ d = cc in ap Some same

pub parsed_as : (bytes : Text) (d : Data) → json_reading (json_of bytes) ≡ Ok d → json_of bytes ≡ Some d
parsed_as bytes d h = was_json (json_of bytes) d h
