-- The data that contracts see of a borrowed value.
use Rattle.std.specs.Prelude.{ℕ, List, [], ◌∷◌, Option, option_map, unwrap_or, map}
use Rattle.std.specs.Borrow.{Bor}
use Rattle.serde_json.specs.Data.{Data, null, boolean, number, string, array, object, Items, Members, no_members, member}
use Rattle.serde_json.specs.View.{number_view, items_of}
use Rattle.canvas_task.specs.Text.{Text}
use Rattle.canvas_sig.specs.declared.datum.Datum.{Datum, fold-Datum}
use Rattle.canvas_sig.specs.declared.datum.Datum.TheOpen.{Datum-F}

abbrev pub members_of : List (Bor (List ℕ) × Data) → Members
members_of [] = no_members
members_of (m ∷ ms) = member m.0.now m.1 (members_of ms)

abbrev pub view_step : Datum-F Data → Data
view_step Datum-F.Null = null
view_step (Datum-F.Bool b) = boolean b
view_step (Datum-F.Number n) = number (number_view n)
view_step (Datum-F.Text s) = string s.now
view_step (Datum-F.List ds) = array (items_of ds.now)
view_step (Datum-F.Object ms) = object (members_of ms.now)

abbrev pub view : Datum → Data
view = fold-Datum Data view_step

abbrev pub items_view : List Datum → Items
items_view ds = items_of (map view ds)

abbrev pub members_view : List (Bor (List ℕ) × Datum) → Members
members_view ms = members_of (map (λ m. (m.0, view m.1)) ms)

-- the value that a look-up found, null if there was none
abbrev pub value_at : Option (Bor Datum) → Data
value_at o = unwrap_or (option_map (λ v. view v.now) o) null

-- an object's entries, as data
abbrev pub seen : List (Bor (List ℕ) × Datum) → List (Text × Data)
seen es = map (λ e. (e.0.now, view e.1)) es
