-- The four bytes of a number, by their digits.
use Rattle.std.proofs.Common.{◌≡◌, ◌+◌, ◌*◌, ◌/◌, ◌%◌, ◌^◌, ◌<◌, ℕ, arith, ap, Some, None, Fits, w32}

pub none_some : (n : ℕ) → None ≡ Some n → ⊥
none_some n e = absurd cc

pub top_byte : (k : ℕ) → k < 2 ^ 32 → k / 2 ^ 24 < 256
top_byte k small = omega arith

pub byte : (n : ℕ) → n % 256 < 256
byte n = omega arith

pub fits : (a : ℕ) → a < 256 → Fits w32 (a * 2 ^ 24)
fits a p = omega arith

pub second_fits : (b : ℕ) → b < 256 → Fits w32 (b * 2 ^ 16)
second_fits b q = omega arith

pub third_fits : (d : ℕ) → d < 256 → Fits w32 (d * 2 ^ 8)
third_fits d r = omega arith

pub two_fit : (a b : ℕ) → a < 256 → b < 256 → Fits w32 (a * 2 ^ 24 + b * 2 ^ 16)
two_fit a b p q = omega arith

pub three_fit : (a b d : ℕ) → a < 256 → b < 256 → d < 256 → Fits w32 (a * 2 ^ 24 + b * 2 ^ 16 + d * 2 ^ 8)
three_fit a b d p q r = omega arith

pub four_fit : (a b d f : ℕ) → a < 256 → b < 256 → d < 256 → f < 256 → Fits w32 (a * 2 ^ 24 + b * 2 ^ 16 + d * 2 ^ 8 + f)
four_fit a b d f p q r s = omega arith

back : (k : ℕ) → k / 2 ^ 24 * 2 ^ 24 + k / 2 ^ 16 % 256 * 2 ^ 16 + k / 2 ^ 8 % 256 * 2 ^ 8 + k % 256 ≡ k
back k = omega arith

pub of_bytes : (k a b d f : ℕ) → Some a ≡ Some (k / 2 ^ 24) → Some b ≡ Some (k / 2 ^ 16 % 256) → Some d ≡ Some (k / 2 ^ 8 % 256)
    → Some f ≡ Some (k % 256) → Some (a * 2 ^ 24 + b * 2 ^ 16 + d * 2 ^ 8 + f) ≡ Some k
of_bytes k a b d f p q r s =
    let first : a ≡ k / 2 ^ 24 = cc in
    let second : b ≡ k / 2 ^ 16 % 256 = cc in
    let third : d ≡ k / 2 ^ 8 % 256 = cc in
    let last : f ≡ k % 256 = cc in
    rw (first, second, third, last) (ap (λ n. Some n) (back k))
