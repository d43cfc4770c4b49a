-- The signatures of a text, as they are listed for readers of the text.
use Rattle.std.specs.Prelude.{◌≡◌, Bool, List, map, Some, string_bytes}
use Rattle.serde_json.specs.Data.{Data}
use Rattle.canvas_task.specs.Text.{Text}
use Rattle.canvas_values.specs.CanvasText.{json_of}
use Rattle.canvas_check.specs.FileOrder.{Sighted, signatures}
use Rattle.canvas_check.specs.Ignored.{ignored_in}
use Rattle.canvas_check.specs.Keywords.{is_unstarted}
use Rattle.canvas_check.specs.declared.step.Step.{Step}
use Rattle.canvas_check.specs.declared.signature.Signature.{Signature}

-- the steps to one, whether Celery doesn't start it, and the names of its ignored options
abbrev pub listed : Signature → List Step × (Bool × List Text)
listed s = (s.steps.items, (s.is_unstarted, map string_bytes s.ignored.items))

abbrev pub sighted : Sighted → List Step × (Bool × List Text)
sighted s = (s.steps, (is_unstarted s.signature, ignored_in s.signature))

-- the signatures of the JSON value of a text, in file order
abbrev pub AreSignatures : Text → List Signature → Type 0
AreSignatures bytes found =
    (d : Data) → json_of bytes ≡ Some d
    → map listed found ≡ map sighted (signatures d)
