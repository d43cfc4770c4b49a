use Rattle.std.proofs.Common.{◌+◌, ◌*◌}
use Rattle.canvas_adapt.proofs.context.Context.+start.Given as goal

abbrev pub decreases-starts_of_elements : goal.decreases-starts_of_elements
decreases-starts_of_elements l = 4 * l.left + 1

abbrev pub decreases-add_starts : goal.decreases-add_starts
decreases-add_starts l = 4 * l.left + 1

abbrev pub decreases-starts_of_members : goal.decreases-starts_of_members
decreases-starts_of_members l = 4 * l.left + 2

abbrev pub decreases-starts : goal.decreases-starts
decreases-starts l = 4 * l.left
