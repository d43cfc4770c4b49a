use Rattle.std.proofs.Common.{◌∙◌, ◌++◌, ap, codes}
use Rattle.canvas_report.specs.RowTexts.{shown_text}
use Rattle.canvas_report.specs.StoredRows.{row_of}
use Rattle.canvas_engine.specs.StepLines.{ask_text, task_member}
use Rattle.canvas_engine.proofs.StepLining.{add}
use Rattle.canvas_engine.proofs.steps.lines.put_store.Goals as goal

pub returns : goal.returns
returns c =
    let text = c.args.text.now.items in
    let ask = ask_text (codes "store") in
    let comma = codes "," in
    let row = shown_text (row_of c.args.rows.now c.args.task) in
    let quote = codes "\"" in
    let stored = c.args.stored.now in
    let shown = c.in_ok-put-2.ensures ∙ ap (λ z. c.put.new.text.items ++ z) (c.as_bytes.ensures.value ∙ c.in_ok-shown_members.ensures) in
    add text (ask ++ comma ++ row ++ quote ++ stored) (task_member c.args.task)
    (add text (ask ++ comma ++ row ++ quote) stored
    (add text (ask ++ comma ++ row) quote (add text (ask ++ comma) row (add text ask comma c.in_ok-put_ask.ensures c.in_ok-put.ensures) shown)
    c.in_ok-put-3.ensures) c.in_ok-put-4.ensures) c.in_ok-put_task.ensures
