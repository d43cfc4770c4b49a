-- The options of signatures that are read and ignored (Celery user guide, Calling Tasks): all
-- except callbacks, and except those that Celery writes into a signature for its own bookkeeping
-- (celery/canvas.py, `Signature.freeze`, `_chord.freeze`). An option that is null counts as
-- missing.
use Rattle.std.specs.Prelude.{Bool, ◌||◌, not, if◌then◌else◌, List, [], ◌∷◌}
use Rattle.std.specs.Prelude.{codes}
use Rattle.std.specs.List.{flat_map}
use Rattle.std.specs.Str.{bytes_eq}
use Rattle.serde_json.specs.Data.{Data}
use Rattle.canvas_task.specs.Text.{Text}
use Rattle.canvas_values.specs.Fields.{field, object_members, is_null}

abbrev pub is_callback : Text → Bool
is_callback name =
    bytes_eq name (codes "link") || bytes_eq name (codes "link_error")
    || bytes_eq name (codes "chord")

abbrev pub is_book : Text → Bool
is_book name =
    bytes_eq name (codes "chord_size") || bytes_eq name (codes "group_id")
    || bytes_eq name (codes "group_index") || bytes_eq name (codes "parent_id")
    || bytes_eq name (codes "root_id") || bytes_eq name (codes "reply_to")

-- whether an option is ignored
abbrev pub is_ignored : Text → Data → Bool
is_ignored name d = not (is_callback name || is_book name || is_null d)

-- the name of an option, if the option is ignored
abbrev pub if_ignored : Text → Data → List Text
if_ignored name d = if is_ignored name d then name ∷ [] else []

-- the names of a signature's ignored options
abbrev pub ignored_in : Data → List Text
ignored_in d =
    flat_map (λ e. if_ignored e.0 e.1) (object_members (field (codes "options") d))
