use Rattle.std.proofs.Common.{◌≡◌, ◌++◌, ◌∙◌, OnOk, ap, rules, subst, string_bytes}
use Rattle.canvas_semantics.specs.Report.{value_text}
use Rattle.canvas_semantics.specs.States.{rows_from}
use Rattle.canvas_report.specs.steps.ReportRows.{run_value}
use Rattle.canvas_report.proofs.ReportLines.{values}
use Rattle.canvas_report.proofs.report.push_values.Goals as goal

pub returns-in_ok-push_value-in-Some : goal.returns-in_ok-push_value-in-Some
returns-in_ok-push_value-in-Some c =
    subst (λ x. OnOk c.push_further.result (string_bytes c.push_further.new.text ≡ x))
    (values (run_value (rows_from 1 c.args.rows.now)) c.in-Some.first.now c.in-Some.further.now c.args.tasks.now _ _ (search rules)
    (c.in_ok-push_value-in-Some.ensures ∙ ap (λ s. string_bytes c.args.text.now ++ value_text s) c.state_in-state.ensures)) c.push_further.ensures
