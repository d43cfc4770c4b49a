use Rattle.std.proofs.Common.{◌≡◌, OnOk, rules, subst, string_bytes}
use Rattle.canvas_report.specs.Wording.{said_at}
use Rattle.canvas_report.proofs.ReportLines.{values}
use Rattle.canvas_report.proofs.wording.push_values.Goals as goal

pub returns-in_ok-push_value-in-Some : goal.returns-in_ok-push_value-in-Some
returns-in_ok-push_value-in-Some c =
    subst (λ x. OnOk c.push_further.result (string_bytes c.push_further.new.text ≡ x))
    (values (said_at c.args.naming c.args.rows.now) c.in-Some.first.now c.in-Some.further.now c.args.tasks.now _ _ (search rules)
    c.in_ok-push_value-in-Some.ensures) c.push_further.ensures
