-- A list where one place is written.
use Rattle.std.proofs.Common.{◌≡◌, ◌≢◌, ◌<◌, ℕ, zero, suc, List, [], ◌∷◌, length, set, slice_get, Some, refl, ap, arith}

module _ {A : Type 0} where
  pub placed_here : (xs : List A) (i : ℕ) (x y : A) → slice_get xs i ≡ Some x → slice_get (set xs i y) i ≡ Some y
  placed_here [] i x y there = absurd (cc)
  placed_here (z ∷ zs) zero x y there = refl
  placed_here (z ∷ zs) (suc i) x y there = placed_here zs i x y there

  pub placed_else : (xs : List A) (i k : ℕ) (y : A) → k ≢ i → slice_get (set xs i y) k ≡ slice_get xs k
  placed_else [] i k y apart = refl
  placed_else (z ∷ zs) zero zero y apart = absurd (apart refl)
  placed_else (z ∷ zs) zero (suc k) y apart = refl
  placed_else (z ∷ zs) (suc i) zero y apart = refl
  placed_else (z ∷ zs) (suc i) (suc k) y apart = placed_else zs i k y (λ e. apart (ap suc e))

  pub placed_inside : (xs : List A) (i : ℕ) (y : A) → i < length xs → slice_get (set xs i y) i ≡ Some y
  placed_inside [] i y lt = absurd (omega arith)
  placed_inside (z ∷ zs) zero y lt = refl
  placed_inside (z ∷ zs) (suc i) y lt = placed_inside zs i y (omega arith)
