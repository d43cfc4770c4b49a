-- The result of reading a text: the canvas with its signatures, or the refusal.
use Rattle.std.specs.Prelude.{◌≡◌, Some, Ok}
use Rattle.canvas_task.specs.Text.{Text}
use Rattle.canvas_values.specs.CanvasText.{text_reading}
use Rattle.canvas_check.specs.Finding.{IsFound}
use Rattle.canvas_check.specs.Signed.{AreSignatures}
use Rattle.canvas_check.specs.declared.reading.Reading.{Reading}
use Rattle.canvas_check.specs.declared.reading.Reading.TheVariants.{Canvas, Refused}

abbrev pub IsReading : Text → Reading → Type 0
IsReading bytes (Canvas canvas signatures) =
    (text_reading bytes ≡ Ok canvas) × AreSignatures bytes signatures.items
IsReading bytes (Refused finding) = IsFound bytes (Some finding)
