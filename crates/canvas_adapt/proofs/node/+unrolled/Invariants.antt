use Rattle.std.proofs.Common.{◌+◌, ◌*◌}
use Rattle.canvas_adapt.proofs.node.+unrolled.Given as goal

abbrev pub decreases-unrolled : goal.decreases-unrolled
decreases-unrolled l = 2 * l.left

abbrev pub decreases-unrolled_one : goal.decreases-unrolled_one
decreases-unrolled_one l = 2 * l.left + 1
