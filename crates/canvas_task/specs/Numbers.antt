-- Whole numbers: the range of tasks' numbers, and the quotient rounded down (Python's `//`).
use Rattle.std.specs.Prelude.{◌^◌, Bool, ◌&&◌, ℤ, pos, negsuc, neg_ℤ, ◌+ℤ◌, int_le, List, fold}
use Rattle.std.specs.Int.{int_div_euclid}

-- 2 to the power 60
abbrev pub bound : ℤ
bound = pos (2 ^ 60)

-- whether a number is from -2^60 to 2^60
abbrev pub in_range : ℤ → Bool
in_range n = int_le (neg_ℤ bound) n && int_le n bound

-- x / y rounded towards minus infinity, for y other than 0
abbrev pub floor_div : ℤ → ℤ → ℤ
floor_div x (pos y) = int_div_euclid x (pos y)
floor_div x (negsuc y) = int_div_euclid (neg_ℤ x) (neg_ℤ (negsuc y))

-- the sum of a list
abbrev pub sum_of : List ℤ → ℤ
sum_of ns = fold ◌+ℤ◌ (pos 0) ns
