-- Definitions on lists by recursion. The library's `Contains` and `All` speak of indices, and its
-- `sum_by` adds from the left, so what they say of a list doesn't compute to what they say of its
-- first element and of the rest. These do, and histories are lists that are proved about by
-- recursion.
use Rattle.std.specs.Prelude.{ℕ, ◌+◌, eqb, cond, List, [], ◌∷◌}
-- x is one of the elements
pub use Rattle.canvas_envelope.specs.Among.{In}

-- P holds of each element
abbrev pub Each : {X : Type 0} → (X → Type 0) → List X → Type 0
Each P [] = Unit
Each P (x ∷ xs) = P x × Each P xs

-- the sum of a weight over the elements
abbrev pub total : {X : Type 0} → (X → ℕ) → List X → ℕ
total w [] = 0
total w (x ∷ xs) = w x + total w xs

-- the entries of key p, without the key
abbrev pub by : {X : Type 0} → ℕ → List (ℕ × X) → List X
by p [] = []
by p (e ∷ es) = cond (eqb e.0 p) (e.1 ∷ by p es) (by p es)

abbrev pub firsts : {X Y : Type 0} → List (X × Y) → List X
firsts [] = []
firsts (e ∷ es) = e.0 ∷ firsts es

abbrev pub seconds : {X Y : Type 0} → List (X × Y) → List Y
seconds [] = []
seconds (e ∷ es) = e.1 ∷ seconds es
