-- The names that a step appends to a list.
use Rattle.std.specs.Prelude.{◌≡◌, List, ◌++◌, map, String, string_bytes}
use Rattle.std.specs.Global.{Global}
use Rattle.canvas_task.specs.Text.{Text}

-- these names were appended to the others
abbrev pub Adds : List Text → (old new : List (String Global)) → Type 0
Adds added old new = map string_bytes new ≡ map string_bytes old ++ added
