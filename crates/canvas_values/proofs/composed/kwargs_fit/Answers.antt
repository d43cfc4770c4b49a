use Rattle.canvas_task.proofs.Ascending.{named_ascend}
use Rattle.canvas_values.proofs.composed.kwargs_fit.Goals as goal

pub returns-then-not-arg_fits-clause-ordered : goal.returns-then-not-arg_fits-clause-ordered
returns-then-not-arg_fits-clause-ordered c = named_ascend c.args.kwargs.now.entries c.iter-name-items.ensures.ordered

pub returns-clause-ordered : goal.returns-clause-ordered
returns-clause-ordered c = named_ascend c.args.kwargs.now.entries c.iter-name-items.ensures.ordered
