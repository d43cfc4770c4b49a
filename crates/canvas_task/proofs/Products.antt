-- Products of numbers of 64 bits, as ones of 128.
use Rattle.std.proofs.Common.{◌≡◌, ◌∙◌, ◌≤◌, ◌^◌, ap, arith}
use Rattle.std.proofs.lemmas.Int.{ints, to_z-of_z, fits_signed_mul}
use Rattle.std.specs.Int.RustNames.{unsigned_abs}
use lib.IntN.{ℤ, ◌*ℤ◌}
use mir.Syntax.{w64, w128}
use mir.Val.{SFits, of_z, to_z}

pub widened : (x r : ℤ) → SFits w64 x → r ≡ to_z w64 (of_z w64 x) → to_z w128 (of_z w128 r) ≡ x
widened x r fits is = omega (arith, ints)

size : (x : ℤ) → SFits w64 x → unsigned_abs x ≤ 2 ^ 63
size x fits = omega (arith, ints)

module _ (x y a b : ℤ) (fits : SFits w64 x) (fits_too : SFits w64 y) (is : a ≡ x) (is_too : b ≡ y) where
  pub product_fits : SFits w128 (a *ℤ b)
  product_fits = rw (is, is_too) (fits_signed_mul w128 x y (2 ^ 63) (2 ^ 63) (size x fits) (size y fits_too) (omega arith))

  pub product_is : to_z w128 (of_z w128 (a *ℤ b)) ≡ x *ℤ y
  product_is = to_z-of_z w128 (a *ℤ b) product_fits ∙ ap (λ u. u *ℤ b) is ∙ ap (λ u. x *ℤ u) is_too
