use Rattle.std.proofs.Common.{◌∙◌, ◌++◌, ap, string_bytes}
use Rattle.canvas_report.proofs.Pieces.{behind, last}
use Rattle.canvas_report.proofs.report_rows.push_row.Goals as goal

pub returns : goal.returns
returns c =
    let state = c.in_ok-put-4.ensures ∙ ap (λ n. string_bytes c.put-3.new.text ++ n) c.name_of.ensures in
    last c.put-6.result _ _ _ _ _
    (behind _ _ _ _ _
    (behind _ _ _ _ _
    (behind _ _ _ _ _
    (behind _ _ _ _ _
    (behind _ _ _ _ _ (behind _ _ _ _ _ c.in_ok-push_identifier.ensures c.in_ok-put.ensures) c.in_ok-put-2.ensures)
    c.in_ok-put-3.ensures)
    state)
    c.in_ok-put-5.ensures)
    c.in_ok-push_value.ensures)
    c.put-6.ensures
