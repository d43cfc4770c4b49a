-- Messages as text, a line of JSON each (Celery's task message protocol, version 2).
use Rattle.std.specs.Prelude.{◌++◌, List, [], ◌∷◌, codes}
use Rattle.serde_json.specs.Written.{compact_text}
use Rattle.canvas_task.specs.Text.{Text}
use Rattle.canvas_envelope.specs.declared.envelope.Envelope.{Envelope}
use Rattle.canvas_report.specs.MessageLines.{message_wire}

abbrev pub message_lines : List Envelope → Text
message_lines [] = []
message_lines (e ∷ es) =
    compact_text (message_wire e.properties e.headers e.body) ++ codes "\n" ++ message_lines es
