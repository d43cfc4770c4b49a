-- A canvas that no limit refuses is within the limits of depth.
use Rattle.std.proofs.Common.{◌≡◌, ◌≤◌, ℕ, Bool, true, false, Option, Some, None, refl, arith}
use Rattle.std.specs.Prelude.{◌||◌, if◌then◌else◌, nat_lt}
use Rattle.std.proofs.lemmas.Bool.{ltb-false}
use Rattle.canvas_semantics.specs.Bounds.{most_nesting, most_reach, nests_group, is_too_deep}
use Rattle.canvas_semantics.specs.Nesting.{nesting}
use Rattle.canvas_semantics.specs.NormalLine.{normal}
use Rattle.canvas_semantics.specs.Reach.{reach}
use Rattle.canvas_semantics.specs.Tree.{Tree}
use Rattle.canvas_values.specs.declared.fault.SigFault.{SigFault}
use Rattle.canvas_values.specs.LimitRefusals.{tree_fault}
use Rattle.canvas_values.specs.steps.LineReach.{capped}

not_refused : (b : Bool) (e : SigFault) (o : Option SigFault) → (if b then Some e else o) ≡ None → (b ≡ false) × (o ≡ None)
not_refused true e o h = absurd cc
not_refused false e o h = (refl, h)

neither : (a b : Bool) → (a || b) ≡ false → (a ≡ false) × (b ≡ false)
neither true b h = absurd cc
neither false b h = (refl, h)

pub shallow : (t : Tree) → tree_fault t ≡ None → (nesting t ≤ most_nesting) × (reach 0 (normal t) ≤ most_reach)
shallow t h =
    let rest = (not_refused (nests_group t) _ _ h).1 in
    let deep = (not_refused (is_too_deep t) _ _ rest).0 in
    let both = neither (nat_lt most_nesting (nesting t)) (nat_lt most_reach (reach 0 (normal t))) deep in
    (ltb-false most_nesting (nesting t) both.0, ltb-false most_reach (reach 0 (normal t)) both.1)

-- up to the limit the capped reach is the reach
pub uncapped : (w r : ℕ) → r ≤ most_reach → w ≡ capped r → w ≡ r
uncapped w r low is = omega (arith, low, is)
