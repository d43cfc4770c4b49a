use Rattle.std.proofs.Common.{◌∙◌, ◌++◌, ap, codes}
use Rattle.canvas_task.specs.Identifiers.{task_text}
use Rattle.canvas_engine.proofs.StepLining.{onto}
use Rattle.canvas_engine.proofs.steps.line.put_task.Goals as goal

pub returns : goal.returns
returns c =
    let after = c.put-3.new.text.items in
    let id = task_text c.args.task in
    let text = c.in_ok-put-2.ensures ∙ ap (λ z. c.put.new.text.items ++ z) c.task_text.ensures.value in
    onto c.put-3.result c.args.text.now.items after (codes ",\"task_id\":\"") (id ++ codes "\"") c.in_ok-put.ensures
    (onto c.put-3.result c.put.new.text.items after id (codes "\"") text c.put-3.ensures)
