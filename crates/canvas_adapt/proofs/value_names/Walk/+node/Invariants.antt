use Rattle.std.proofs.Common.{◌+◌, ◌*◌}
use Rattle.canvas_adapt.proofs.value_names.Walk.+node.Given as goal

abbrev pub decreases-rename_node : goal.decreases-rename_node
decreases-rename_node l = 2 * l.left

abbrev pub decreases-rename_part : goal.decreases-rename_part
decreases-rename_part l = 2 * l.left + 1
