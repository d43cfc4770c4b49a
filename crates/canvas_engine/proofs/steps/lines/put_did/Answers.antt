use Rattle.std.proofs.Common.{◌∙◌, ◌++◌, ap, sym, codes, unwrap_or}
use Rattle.canvas_engine.specs.StepLines.{did_text, letter_text, part_text}
use Rattle.canvas_engine.proofs.steps.lines.put_did.Goals as goal

pub returns-in_ok-put_letter-in-Published : goal.returns-in_ok-put_letter-in-Published
returns-in_ok-put_letter-in-Published c =
    let text = c.args.text.now.items in
    c.in_ok-put_letter-in-Published.ensures
    ∙ ap (λ id. text ++ letter_text (codes "publish") id) c.identifier-in-Published.ensures
    ∙ ap (λ d. text ++ did_text c.args.plan.now c.args.rows.now c.args.held.now d) (sym c.in-Published.is)

pub returns-in_ok-put_letter-in-Redelivered : goal.returns-in_ok-put_letter-in-Redelivered
returns-in_ok-put_letter-in-Redelivered c =
    let text = c.args.text.now.items in
    c.in_ok-put_letter-in-Redelivered.ensures
    ∙ ap (λ id. text ++ letter_text (codes "redeliver") id) c.identifier-in-Redelivered.ensures
    ∙ ap (λ d. text ++ did_text c.args.plan.now c.args.rows.now c.args.held.now d) (sym c.in-Redelivered.is)

pub returns-in_ok-put_part-in-Returned : goal.returns-in_ok-put_part-in-Returned
returns-in_ok-put_part-in-Returned c =
    let text = c.args.text.now.items in
    c.in_ok-put_part-in-Returned.ensures
    ∙ ap (λ s. text ++ part_text (unwrap_or s 0) c.in-Returned.group c.in-Returned.task c.in-Returned.before) c.size_of.ensures
    ∙ ap (λ d. text ++ did_text c.args.plan.now c.args.rows.now c.args.held.now d) (sym c.in-Returned.is)
