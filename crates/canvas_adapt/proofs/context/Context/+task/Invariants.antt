use Rattle.std.proofs.Common.{◌+◌, ◌*◌}
use Rattle.canvas_adapt.proofs.context.Context.+task.Given as goal

abbrev pub decreases-adapted_tasks : goal.decreases-adapted_tasks
decreases-adapted_tasks l = 2 * l.left

abbrev pub decreases-adapt_task : goal.decreases-adapt_task
decreases-adapt_task l = 2 * l.left + 1
