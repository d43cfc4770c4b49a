use Rattle.std.proofs.Common.{◌+◌, ◌*◌}
use Rattle.canvas_adapt.proofs.inherited.+same.Given as goal

abbrev pub decreases-is_same : goal.decreases-is_same
decreases-is_same l = 2 * l.left

abbrev pub decreases-are_same_items : goal.decreases-are_same_items
decreases-are_same_items l = 2 * l.left + 1

abbrev pub decreases-are_same_members : goal.decreases-are_same_members
decreases-are_same_members l = 2 * l.left + 1
