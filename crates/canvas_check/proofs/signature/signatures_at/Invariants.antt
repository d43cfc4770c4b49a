use Rattle.std.proofs.Common.{◌≡◌, ◌++◌, map}
use Rattle.std.specs.Vec.Iter.{into_iter_items}
use Rattle.canvas_check.specs.Places.{shown}
use Rattle.canvas_check.specs.Signed.{listed, sighted}
use Rattle.canvas_check.proofs.signature.signatures_at.Given as goal

abbrev pub invariant-loop-place : goal.invariant-loop-place
invariant-loop-place l =
    map listed l.found.items ++ map sighted (map shown (into_iter_items l.place-iterator))
    ≡ map sighted (map shown l.fn.places.items)
