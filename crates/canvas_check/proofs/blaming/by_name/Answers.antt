use Rattle.std.proofs.Common.{◌∙◌}
use Rattle.canvas_task.proofs.Named.{found, copied}
use Rattle.canvas_check.proofs.blaming.by_name.Goals as goal

pub returns : goal.returns
returns c = copied c.get.result ∙ c.get.ensures.value ∙ found c.args.parameter.now c.args.kwargs.now.entries
