-- A message as the call that it asks for: a JSON object in a line (RFC 8259), whose members are in
-- the byte order of their names.
use Rattle.std.specs.Prelude.{ℕ, List, [], ◌∷◌, ◌++◌, Option, Some, None, unwrap_or, codes}
use Rattle.serde_json.specs.Data.{Data, null, string, array, object, Items, no_items, item, no_members, member}
use Rattle.serde_json.specs.Written.{compact_text}
use Rattle.canvas_task.specs.Text.{Text}
use Rattle.canvas_envelope.specs.Content.{Content, call_of, number_of}
use Rattle.canvas_envelope.specs.EnvelopeContent.{content_said}
use Rattle.canvas_envelope.specs.Wire.{parent_id, task_id}
use Rattle.canvas_envelope.specs.declared.envelope.Envelope.{Envelope}
use Rattle.canvas_report.specs.JsonRows.{identifiers_wire}
use Rattle.canvas_semantics.specs.Line.{Line, name_of, names}
use Rattle.canvas_values.specs.Writing.{args_wire, kwargs_wire}
use Rattle.canvas_ran.specs.Fronts.{front_of}
use Rattle.canvas_ran.specs.declared.calls.front.Front.{Front}

abbrev pub header_wire : Option (List ℕ) → Data
header_wire None = null
header_wire (Some ks) = array (identifiers_wire ks)

-- the object of a call of a task with this name and front
abbrev pub call_wire : Front → Text → Content → Data
call_wire front name c =
    object (member (codes "after") (array (identifiers_wire front.after))
    (member (codes "args") (array (args_wire (call_of c.own).args))
    (member (codes "header_after") (header_wire front.header_after)
    (member (codes "kwargs") (object (kwargs_wire (call_of c.own).kwargs))
    (member (codes "name") (string name)
    (member (codes "parent_id") (parent_id c.parent)
    (member (codes "task_id") (task_id (number_of c.own)) no_members)))))))

-- the name of the task of a number
abbrev pub known_name : Line → ℕ → Text
known_name l k = unwrap_or (name_of l k) []

abbrev pub names_wire : List Text → Items
names_wire [] = no_items
names_wire (n ∷ ns) = item (string n) (names_wire ns)

-- the names of all tasks, also of those that aren't called; the i-th is that of task i
abbrev pub known_wire : Line → Data
known_wire l = object (member (codes "names") (array (names_wire (names l))) no_members)

-- Tasks have the names of a plan's line, and these fronts.
module _ (fronts : List Front) (shown : Line) where
  abbrev pub call_line : Content → Text
  call_line c =
      compact_text
      (call_wire (front_of fronts (number_of c.own)) (known_name shown (number_of c.own)) c)
      ++ codes "\n"

  -- the calls of the envelopes, one after another
  abbrev pub call_lines : List Envelope → Text
  call_lines [] = []
  call_lines (e ∷ es) = call_line (content_said e.headers e.body) ++ call_lines es

  -- the last line has the names
  abbrev pub calls_text : List Envelope → Text
  calls_text es = call_lines es ++ compact_text (known_wire shown) ++ codes "\n"
