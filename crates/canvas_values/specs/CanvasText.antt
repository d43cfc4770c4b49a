-- The canvas that a text spells, or its first refusal: JSON (RFC 8259) in UTF-8, as
-- `json.dumps(signature)` writes a signature of Celery.
use Rattle.std.specs.Prelude.{ℕ, if◌then◌else◌, length, Option, Some, None, Result, Err, nat_lt}
use Rattle.std.specs.Str.{is_utf8}
use Rattle.serde_json.specs.Data.{Data}
use Rattle.serde_json.specs.Read.{read}
use Rattle.canvas_values.specs.declared.fault.SigFault.{SigFault}
use Rattle.canvas_values.specs.declared.fault.SigFault.TheVariants.{TooLarge, NotJson}
use Rattle.canvas_task.specs.Text.{Text}
use Rattle.canvas_values.specs.Answers.{◌or_else◌, judged}
use Rattle.canvas_values.specs.Refusals.{signature_fault, tree_said}
use Rattle.canvas_values.specs.LimitRefusals.{tree_fault}
use Rattle.canvas_semantics.specs.Tree.{Tree}

-- a mebibyte
abbrev pub most_bytes : ℕ
most_bytes = 1048576

-- the one JSON value of a text in UTF-8
abbrev pub json_of : Text → Option Data
json_of bytes = if is_utf8 bytes then read bytes else None

-- the canvas that a JSON value spells, if neither a signature nor the whole canvas is refused
abbrev pub canvas_reading : Data → Result Tree SigFault
canvas_reading d = judged (signature_fault d or_else tree_fault (tree_said d)) (tree_said d)

abbrev pub json_canvas : Option Data → Result Tree SigFault
json_canvas None = Err NotJson
json_canvas (Some d) = canvas_reading d

-- the canvas that a text spells, or its first refusal
abbrev pub text_reading : Text → Result Tree SigFault
text_reading bytes =
    if nat_lt most_bytes (length bytes) then Err TooLarge else json_canvas (json_of bytes)
