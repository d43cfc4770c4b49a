-- Names that are added, one list of them after the other.
use Rattle.std.proofs.Common.{◌≡◌, ◌<◌, ◌≤◌, ◌+◌, ℕ, List, ◌++◌, map, length, get_or, drop, refl, sym, ◌∙◌}
use Rattle.std.proofs.lemmas.List.{get_or_default}
use Rattle.std.specs.Prelude.{String, string_bytes}
use Rattle.std.specs.Global.{Global}
use Rattle.std.specs.List.{flat_map}
use Rattle.canvas_task.specs.Text.{Text}
use Rattle.canvas_task.proofs.Turns.{put_on, put_all}
use Rattle.canvas_check.specs.Naming.{Adds}

-- those of the rest are left to add
abbrev pub Left : {X : Type 0} → (X → List Text) → (old now : List (String Global)) → (all rest : List X) → Type 0
Left f old now all rest = map string_bytes now ++ flat_map f rest ≡ map string_bytes old ++ flat_map f all

-- those of one more were added
pub one_more : {X Y : Type 0} (look : X → Y) (f : Y → List Text) (xs : List X) (i : ℕ) (x d : X) (old now next : List (String Global))
    → i < length xs → get_or xs i d ≡ x → Adds (f (look x)) now next
    → Left f old now (map look xs) (map look (drop i xs)) → Left f old next (map look xs) (map look (drop (i + 1) xs))
one_more look f xs i x d old now next inside is added kept =
    put_on (λ ys. flat_map f (map look ys)) xs i x (f (look x)) (map string_bytes now) (map string_bytes next)
    (map string_bytes old ++ flat_map f (map look xs)) inside (sym is ∙ get_or_default xs i d x inside) refl kept added

-- those of all were added
pub all_added : {X Y : Type 0} (look : X → Y) (f : Y → List Text) (xs : List X) (i : ℕ) (old now : List (String Global))
    → length xs ≤ i → Left f old now (map look xs) (map look (drop i xs)) → Adds (flat_map f (map look xs)) old now
all_added look f xs i old now past kept =
    put_all (λ ys. flat_map f (map look ys)) xs i (map string_bytes now) (map string_bytes old ++ flat_map f (map look xs)) past refl kept
