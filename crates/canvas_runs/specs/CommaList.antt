-- Lists written as a text with a comma between two items.
use Rattle.std.specs.Prelude.{◌==◌, ◌≡◌, ◌≤◌, ◌<◌, ◌^◌, ℕ, Bool, All, List, [], ◌∷◌, map}
use Rattle.std.specs.List.{slice_split}

abbrev pub is_comma : ℕ → Bool
is_comma b = b == 44

-- the texts between commas; none in the empty text
abbrev pub pieces : List ℕ → List (List ℕ)
pieces [] = []
pieces (b ∷ bs) = slice_split is_comma (b ∷ bs)

-- The items are good, and the pieces of the text are their texts.
abbrev pub Lists : {A : Type 0} → (A → Type 0) → (A → List ℕ) → List ℕ → List A → Type 0
Lists Good written text xs = All Good xs × (pieces text ≡ map written xs)

-- from 1, in 32 bits
abbrev pub IsNumberFromOne : ℕ → Type 0
IsNumberFromOne k = (1 ≤ k) × (k < 2 ^ 32)
