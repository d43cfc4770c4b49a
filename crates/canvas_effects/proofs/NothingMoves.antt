-- A list that is already in the order of its numbers is unchanged.
use Rattle.std.proofs.Common.{◌≡◌, ◌∙◌, ℕ, ◌<◌, ◌≤◌, Bool, true, false, List, [], ◌∷◌, refl, ap, arith}
use Rattle.std.specs.Prelude.{nat_lt, if◌then◌else◌}
use Rattle.std.proofs.lemmas.Bool.{ltb-true}
use Rattle.canvas_effects.specs.Ordered.{put, in_order}

module _ {A : Type 0} (key : A → ℕ) where
  -- from a bound on
  abbrev pub Above : ℕ → List A → Type 0
  Above low [] = Unit {0}
  Above low (x ∷ xs) = (low ≤ key x) × Above (key x) xs

  put_first : (x : A) (xs : List A) → Above (key x) xs → put key x xs ≡ x ∷ xs
  put_first x [] h = refl
  put_first x (y ∷ ys) h = go (nat_lt (key y) (key x)) refl
    where
      go : (b : Bool) → nat_lt (key y) (key x) ≡ b → (if b then y ∷ put key x ys else x ∷ y ∷ ys) ≡ x ∷ y ∷ ys
      go true e = let less : key y < key x = ltb-true (key y) (key x) e in absurd (omega (arith, h.0))
      go false e = refl

  pub nothing_moves : (low : ℕ) (xs : List A) → Above low xs → in_order key xs ≡ xs
  nothing_moves low [] h = refl
  nothing_moves low (x ∷ xs) h = ap (put key x) (nothing_moves (key x) xs h.1) ∙ put_first x xs h.1
