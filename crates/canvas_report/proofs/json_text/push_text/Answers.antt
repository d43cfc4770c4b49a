use Rattle.std.proofs.Common.{◌∙◌, ap}
use Rattle.json.specs.Print.{quoted}
use Rattle.canvas_report.proofs.MessageParts.{a_text, no_text, text_ok}
use Rattle.canvas_report.proofs.json_text.push_text.Goals as goal

pub returns-in_ok-quoted_json-in-Ok : goal.returns-in_ok-quoted_json-in-Ok
returns-in_ok-quoted_json-in-Ok c =
    text_ok _ _ _ _ _ (c.deref.ensures ∙ c.in_ok-quoted_json-in-Ok.ensures ∙ ap quoted c.in-Ok.ensures.cases.0
    ∙ a_text c.args.bytes.now c.in-Ok.ensures.cases.1)
    c.put.ensures

pub returns-in-Err : goal.returns-in-Err
returns-in-Err c = text_ok _ _ _ _ _ (no_text c.args.bytes.now c.in-Err.ensures.cases.0) c.put-in-Err.ensures
