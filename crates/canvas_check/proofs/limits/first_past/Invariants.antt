use Rattle.std.proofs.Common.{◌≡◌, map}
use Rattle.std.specs.Vec.Iter.{into_iter_items}
use Rattle.canvas_check.specs.Places.{shown}
use Rattle.canvas_check.specs.Limits.{past}
use Rattle.canvas_check.proofs.limits.first_past.Given as goal

abbrev pub invariant-loop-place : goal.invariant-loop-place
invariant-loop-place l = past l.fn.tasks l.fn.groups (map shown l.fn.listed.items) ≡ past l.tasks l.groups (map shown (into_iter_items l.place-iterator))
