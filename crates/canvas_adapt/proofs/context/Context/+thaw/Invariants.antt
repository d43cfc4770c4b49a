use Rattle.std.proofs.Common.{◌+◌, ◌*◌}
use Rattle.canvas_adapt.proofs.context.Context.+thaw.Given as goal

abbrev pub decreases-thaw_part : goal.decreases-thaw_part
decreases-thaw_part l = 3 * l.left + 1

abbrev pub decreases-thaw_inner : goal.decreases-thaw_inner
decreases-thaw_inner l = 3 * l.left + 2

abbrev pub decreases-thaw : goal.decreases-thaw
decreases-thaw l = 3 * l.left
