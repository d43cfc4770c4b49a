use Rattle.std.proofs.Common.{◌∙◌, ◌++◌, ap, string_bytes}
use Rattle.canvas_report.specs.JsonRows.{status_name}
use Rattle.canvas_report.specs.Wording.{reason}
use Rattle.canvas_report.proofs.Pieces.{behind, last}
use Rattle.canvas_report.proofs.wording.push_row.Goals as goal

pub returns : goal.returns
returns c =
    let name = c.name.ensures ∙ ap status_name c.status_at.ensures in
    let status = c.in_ok-put-4.ensures ∙ ap (λ n. string_bytes c.put-3.new.text ++ n) name in
    let why = c.in_ok-push_reason.ensures ∙ ap (λ f. string_bytes c.push_value.new.text ++ reason f) c.fate_in.ensures in
    last c.put-6.result _ _ _ _ _
    (behind _ _ _ _ _
    (behind _ _ _ _ _
    (behind _ _ _ _ _
    (behind _ _ _ _ _
    (behind _ _ _ _ _
    (behind _ _ _ _ _ (behind _ _ _ _ _ c.in_ok-push_named.ensures c.in_ok-put.ensures) c.in_ok-put-2.ensures)
    c.in_ok-put-3.ensures)
    status)
    c.in_ok-put-5.ensures)
    c.in_ok-push_value.ensures)
    why)
    c.put-6.ensures
