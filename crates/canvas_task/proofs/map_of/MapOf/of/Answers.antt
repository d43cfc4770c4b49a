use Rattle.canvas_task.proofs.Ascending.{named_ascend}
use Rattle.canvas_task.proofs.map_of.MapOf.of.Goals as goal

pub invariant_of-result : goal.invariant_of-result
invariant_of-result g c = named_ascend c.args.map.entries c.iter-entries.ensures.ordered
