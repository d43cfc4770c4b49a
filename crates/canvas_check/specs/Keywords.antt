-- The chords that Celery doesn't start because of their keyword arguments (celery/canvas.py,
-- `_chord.from_dict`, `_chord.apply_async`): they have others than a header and a body, and not the
-- `kwargs` that Celery itself writes there.
use Rattle.std.specs.Prelude.{Bool, true, false, ◌||◌, ◌&&◌, not, Option, Some, is_some}
use Rattle.std.specs.Prelude.{codes}
use Rattle.std.specs.List.{list_any}
use Rattle.std.specs.Str.{bytes_eq}
use Rattle.serde_json.specs.Data.{Data}
use Rattle.serde_json.specs.Find.{get}
use Rattle.canvas_task.specs.Text.{Text}
use Rattle.canvas_values.specs.Fields.{kwargs, object_members}
use Rattle.canvas_values.specs.declared.primitive.Primitive.{Primitive}
use Rattle.canvas_values.specs.declared.primitive.Primitive.TheVariants as kind
use Rattle.canvas_check.specs.Limits.{kind_of}

abbrev pub is_part : Text → Bool
is_part name = bytes_eq name (codes "header") || bytes_eq name (codes "body")

-- keyword arguments contain more than the parts of a chord
abbrev pub has_others : Data → Bool
has_others d = list_any (λ e. not (is_part e.0)) (object_members d)

-- they do, and they don't contain Celery's own `kwargs`
abbrev pub lacks_own : Data → Bool
lacks_own d = not (is_some (get (codes "kwargs") d)) && has_others d

abbrev pub is_chord : Option Primitive → Bool
is_chord (Some kind.Chord) = true
is_chord o = false

-- a signature is a chord that Celery doesn't start
abbrev pub is_unstarted : Data → Bool
is_unstarted d = is_chord (kind_of d) && lacks_own (kwargs d)
