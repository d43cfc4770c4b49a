use Rattle.std.proofs.Common.{◌∙◌, ◌++◌, ap, codes, decimal, unwrap_or}
use Rattle.canvas_engine.specs.StepLines.{ask_text, group_member, task_member}
use Rattle.canvas_engine.proofs.StepLining.{add, onto}
use Rattle.canvas_engine.proofs.steps.lines.put_part.Goals as goal

pub returns : goal.returns
returns c =
    let text = c.args.text.now.items in
    let ask = ask_text (codes "part") in
    let before = codes ",\"before\":" ++ decimal c.args.before in
    let group = group_member c.args.group in
    let of = codes ",\"of\":" ++ decimal (unwrap_or c.args.size 0) in
    let size = c.in_ok-put_number-2.ensures
    ∙ ap (λ k. c.put_group.new.text.items ++ (codes ",\"of\":" ++ decimal k)) (c.from.ensures ∙ c.unwrap_or.ensures) in
    onto c.put_task.result text c.put_task.new.text.items (ask ++ before ++ group ++ of) (task_member c.args.task)
    (add text (ask ++ before ++ group) of (add text (ask ++ before) group (add text ask before c.in_ok-put_ask.ensures c.in_ok-put_number.ensures)
    c.in_ok-put_group.ensures) size) c.put_task.ensures
