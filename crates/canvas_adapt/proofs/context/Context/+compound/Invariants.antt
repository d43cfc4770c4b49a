use Rattle.std.proofs.Common.{◌+◌, ◌*◌}
use Rattle.canvas_adapt.proofs.context.Context.+compound.Given as goal

abbrev pub decreases-split_part : goal.decreases-split_part
decreases-split_part l = 2 * l.left + 1

abbrev pub decreases-split_callbacks : goal.decreases-split_callbacks
decreases-split_callbacks l = 2 * l.left
