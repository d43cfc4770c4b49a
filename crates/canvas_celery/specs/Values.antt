-- The values of a text: the items of one JSON array, in their order (RFC 8259). A number is its
-- text, so each is exact.
use Rattle.std.specs.Prelude.{◌≡◌, List, [], ◌∷◌, Option, Some, None, option_and_then}
use Rattle.std.specs.Str.{IsUtf8}
use Rattle.json.specs.Json.{Json, array, Items, no_items, item, document}
use Rattle.canvas_task.specs.Text.{Text}

abbrev pub listed : Items → List Json
listed no_items = []
listed (item j js) = j ∷ listed js

abbrev pub items_of : Json → Option (List Json)
items_of (array js) = Some (listed js)
items_of j = None

abbrev pub AreValues : Text → List Json → Type 0
AreValues text vs = IsUtf8 text × (option_and_then items_of (document text) ≡ Some vs)
