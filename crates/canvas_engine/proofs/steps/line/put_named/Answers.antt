use Rattle.std.proofs.Common.{codes}
use Rattle.canvas_engine.proofs.StepLining.{onto}
use Rattle.canvas_engine.proofs.steps.line.put_named.Goals as goal

pub returns : goal.returns
returns c =
    onto c.put-2.result c.args.text.now.items c.put-2.new.text.items (codes ",\"task_id\":") c.args.identifier.now c.in_ok-put.ensures c.put-2.ensures
