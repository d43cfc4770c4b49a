-- Names of which equal ones in a row share one text.
use Rattle.std.specs.Prelude.{◌≡◌, ◌<◌, ◌-◌, ◌++◌, ℕ, List, [], length, map, get_or}

-- the texts at these indices
abbrev pub texts_at : (texts : List (List ℕ)) → (places : List ℕ) → List (List ℕ)
texts_at texts places = map (λ i. get_or texts i []) places

-- the last text is this one
abbrev pub EndsIn : (texts : List (List ℕ)) → (name : List ℕ) → Type 0
EndsIn texts name = (0 < length texts) × (get_or texts (length texts - 1) [] ≡ name)

-- the old texts, and perhaps more
abbrev pub Extends : (old new : List (List ℕ)) → Type 0
Extends old new = (more : List (List ℕ)) × (new ≡ old ++ more)
