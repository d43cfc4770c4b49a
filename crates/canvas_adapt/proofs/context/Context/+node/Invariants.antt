use Rattle.std.proofs.Common.{◌+◌, ◌*◌}
use Rattle.canvas_adapt.proofs.context.Context.+node.Given as goal

abbrev pub decreases-adapt_node : goal.decreases-adapt_node
decreases-adapt_node l = 4 * l.left

abbrev pub decreases-adapt_inner : goal.decreases-adapt_inner
decreases-adapt_inner l = 4 * l.left + 1

abbrev pub decreases-adapt_parts : goal.decreases-adapt_parts
decreases-adapt_parts l = 4 * l.left + 2
