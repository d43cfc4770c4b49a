use Rattle.std.proofs.Common.{◌∙◌, None, sym}
use Rattle.canvas_answer.specs.Asking.{asking}
use Rattle.canvas_answer.specs.Plans.{run_line}
use Rattle.canvas_answer.proofs.ToldRows.{told_plain}
use Rattle.canvas_answer.proofs.reporting.plain_text.Goals as goal

pub returns-then-is_empty : goal.returns-then-is_empty
returns-then-is_empty g c = λ behaviour rows.
    told_plain (asking c.args.source.now.setting) (run_line c.args.plans.now) c.args.plans.now.shown behaviour c.args.report.now.rows None _
    (sym c.is_empty.ensures ∙ c.if-is_empty.true) rows c.in_ok-report_text.ensures
