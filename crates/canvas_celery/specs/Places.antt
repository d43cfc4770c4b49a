-- Places: the texts `~0`, `~1` and so on, which say where the values of a list go. In a JSON text a
-- whole value replaces each. The rule is this project's own.
use Rattle.std.specs.Prelude.{ℕ, Bool, false, ◌==◌, if◌then◌else◌, List, [], ◌∷◌, Option, Some, None, option_map, option_and_then, slice_get, decimal}
use Rattle.std.specs.Str.{bytes_eq}
use Rattle.std.specs.Str.Parse.{digits_value}
use Rattle.json.specs.Json.{Json, null, boolean, number, string, array, object, Items, no_items, item, Members, no_members, member}
use Rattle.canvas_task.specs.Text.{Text}

-- whether a text begins with `~`, which is 126
abbrev pub is_marked : Text → Bool
is_marked [] = false
is_marked (c ∷ cs) = c == 126

-- the number that digits write, with no leading zero
abbrev pub number_in : (digits : Text) → Option ℕ
number_in ds =
    if bytes_eq ds (decimal (digits_value 10 ds)) then Some (digits_value 10 ds) else None

-- the value of a place, counted from 0
abbrev pub value_at : List Json → Text → Option Json
value_at vs [] = None
value_at vs (c ∷ ds) = option_and_then (slice_get vs) (number_in ds)

-- a text as JSON: a value, if it begins with `~`, and else the text itself
abbrev pub told_by : List Json → Text → Option Json
told_by vs s = if is_marked s then value_at vs s else Some (string s)

-- A JSON value with a value in each place; none, if a text begins with `~` and there is no such
-- value. Names of members are no places.
abbrev mutual
  pub filled : List Json → Json → Option Json
  filled vs null = Some null
  filled vs (boolean b) = Some (boolean b)
  filled vs (number s) = Some (number s)
  filled vs (string s) = told_by vs s
  filled vs (array js) = option_map array (filled_items vs js)
  filled vs (object ms) = option_map object (filled_members vs ms)

  pub filled_items : List Json → Items → Option Items
  filled_items vs no_items = Some no_items
  filled_items vs (item j js) =
      option_and_then (λ d. option_map (item d) (filled_items vs js)) (filled vs j)

  pub filled_members : List Json → Members → Option Members
  filled_members vs no_members = Some no_members
  filled_members vs (member k j ms) =
      option_and_then (λ d. option_map (member k d) (filled_members vs ms)) (filled vs j)
