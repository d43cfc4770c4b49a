-- The rest of a number after n are taken from it, or None if it is less than n.
use Rattle.std.specs.Prelude.{◌≡◌, ℕ, ◌+◌, ◌<◌, Option, Some, None}

abbrev pub LeavesOver : Option ℕ → ℕ → ℕ → Type 0
LeavesOver None all n = all < n
LeavesOver (Some left) all n = left + n ≡ all
