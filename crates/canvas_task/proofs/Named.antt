-- A lookup by name in a map.
use Rattle.std.proofs.Common.{◌≡◌, ℕ, List, [], ◌∷◌, Option, Some, None, String, Global, Bor, Bool, true, false, ◌||◌, bytes_eq, string_bytes, nat_cmp, refl}
use Rattle.std.proofs.lemmas.Map.Text.{is_eq-slice_cmp}
use Rattle.std.specs.BTreeMap.{is_at}
use Rattle.std.specs.Cmp.Lexicographic.{slice_cmp}
use Rattle.std.specs.List.{list_all, list_any}
use Rattle.std.specs.Map.{lookup, keys_of}
use Rattle.std.specs.Option.{option_map, option_copied}
use Rattle.canvas_task.specs.declared.arg.Arg.{Arg}
use Rattle.canvas_task.specs.Entries.{named}
use Rattle.canvas_task.specs.Apply.{by_name}

pub found : (p : List ℕ) (es : List (String Global × Arg)) → lookup (is_at (λ k. slice_cmp nat_cmp p (string_bytes k))) es ≡ by_name p (named es)
found p [] = refl
found p (e ∷ es) = rw (is_eq-slice_cmp, found p es) refl

pub copied : (r : Option (Bor Arg)) → option_map (λ a. a.now) r ≡ option_copied r
copied None = refl
copied (Some a) = refl

or_false : (b : Bool) → (b || false) ≡ b
or_false true = refl
or_false false = refl

-- the names are among two, by the map's own keys and by its named entries
pub keys_named : (x y : List ℕ) (es : List (String Global × Arg))
    → list_all (λ k. bytes_eq (string_bytes k) x || bytes_eq (string_bytes k) y) (keys_of es) ≡ list_all (λ e. list_any (bytes_eq e.0) (x ∷ y ∷ [])) (named es)
keys_named x y [] = refl
keys_named x y (e ∷ es) = rw (or_false (bytes_eq (string_bytes e.0) y), keys_named x y es) refl
