-- What serde_json says of a text.
use Rattle.std.proofs.Common.{◌≡◌, ℕ, Bool, true, false, List, Some, None, Ok, Err, refl, ap}
use Rattle.std.specs.Prelude.{if◌then◌else◌}
use Rattle.std.specs.Str.{IsUtf8, is_utf8}
use Rattle.std.proofs.lemmas.Str.{is_utf8-from_IsUtf8, IsUtf8-from_is_utf8}
use Rattle.serde_json.specs.Data.{Data}
use Rattle.serde_json.specs.Read.{read}
use Rattle.canvas_values.specs.declared.fault.SigFault.TheVariants.{NotJson}
use Rattle.canvas_values.specs.CanvasText.{json_of}
use Rattle.canvas_values.specs.steps.Reading.{json_reading}

-- the value of a text that is UTF-8 and reads
pub text_reads : (bytes : List ℕ) (d : Data) → IsUtf8 bytes → read bytes ≡ Some d → json_reading (json_of bytes) ≡ Ok d
text_reads bytes d utf8 reads = rw (is_utf8-from_IsUtf8 bytes utf8) (ap json_reading reads)

no_text : (bytes : List ℕ) (b : Bool) → (b ≡ true → read bytes ≡ None) → json_reading (if b then read bytes else None) ≡ Err NotJson
no_text bytes true none = ap json_reading (none refl)
no_text bytes false none = refl

-- one that isn't UTF-8, or doesn't read
pub reads_nothing : (bytes : List ℕ) → (IsUtf8 bytes → read bytes ≡ None) → json_reading (json_of bytes) ≡ Err NotJson
reads_nothing bytes none = no_text bytes (is_utf8 bytes) (λ h. none (IsUtf8-from_is_utf8 bytes h))
