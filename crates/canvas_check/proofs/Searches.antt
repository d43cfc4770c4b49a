-- Steps and lines, as the searches for limits go over them.
use Rattle.std.proofs.Common.{◌≡◌, ◌≢◌, ℕ, zero, suc, ◌-◌, refl, sym, ap, arith}
use Rattle.serde_json.specs.Data.{Data}
use Rattle.canvas_check.specs.Limits.{kind_of, ends_where, ends_in_group}

pub ends_below : (n : ℕ) (d : Data) → n ≢ 0 → ends_in_group n d ≡ ends_where (ends_in_group (n - 1)) (kind_of d) d
ends_below zero d h = absurd (h refl)
ends_below (suc n) d h = let e : suc n - 1 ≡ n = omega arith in ap (λ m. ends_where (ends_in_group m) (kind_of d) d) (sym e)
