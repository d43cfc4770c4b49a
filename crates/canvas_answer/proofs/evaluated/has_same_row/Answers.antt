use Rattle.std.proofs.Common.{◌≡◌, ◌∙◌, ◌+◌, suc, None, ap, sym, arith}
use Rattle.canvas_report.specs.RowTexts.{shown_text}
use Rattle.canvas_report.specs.StoredRows.{row_of}
use Rattle.canvas_report.specs.declared.row.Row.TheVariants.{Known}
use Rattle.canvas_answer.proofs.Objects.{item_or}
use Rattle.canvas_answer.proofs.evaluated.has_same_row.Goals as goal

pub returns-in-Some-Some : goal.returns-in-Some-Some
returns-in-Some-Some c = λ same.
    let at = c.in-Some-Some in
    let up : c.args.place + 1 ≡ suc c.args.place = omega arith in
    let mine = ap (row_of c.args.rows.now) up ∙ item_or c.args.rows.now c.args.place (Known None) ∙ sym (at.ensures.lookup.3.1 (Known None)) in
    let theirs = ap (row_of c.args.others.now) up ∙ item_or c.args.others.now c.args.place (Known None) ∙ sym (at.ensures'.lookup.3.1 (Known None)) in
    ap shown_text mine ∙ c.is_same_row.ensures same ∙ sym (ap shown_text theirs)
