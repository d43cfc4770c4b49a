use Rattle.std.proofs.Common.{◌+◌, ◌*◌}
use Rattle.canvas_check.proofs.limits.+ends.Given as goal

abbrev pub decreases-ends_in_group : goal.decreases-ends_in_group
decreases-ends_in_group l = 3 * l.left

abbrev pub decreases-last_ends : goal.decreases-last_ends
decreases-last_ends l = 3 * l.left + 1

abbrev pub decreases-body_ends : goal.decreases-body_ends
decreases-body_ends l = 3 * l.left + 1

abbrev pub decreases-ends_as : goal.decreases-ends_as
decreases-ends_as l = 3 * l.left + 2
