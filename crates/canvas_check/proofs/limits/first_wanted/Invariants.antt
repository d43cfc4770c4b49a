use Rattle.std.proofs.Common.{◌≡◌, map, find}
use Rattle.std.specs.Vec.Iter.{into_iter_items}
use Rattle.canvas_check.specs.Places.{shown}
use Rattle.canvas_check.specs.Wanted.{is_wanted}
use Rattle.canvas_check.proofs.limits.first_wanted.Given as goal

abbrev pub invariant-loop-place : goal.invariant-loop-place
invariant-loop-place l = find (is_wanted l.wanted) (map shown l.fn.places.items) ≡ find (is_wanted l.wanted) (map shown (into_iter_items l.place-iterator))
