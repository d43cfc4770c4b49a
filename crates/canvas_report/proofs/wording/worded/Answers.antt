use Rattle.canvas_rewrite.specs.Ends.{gives_a_list, end_tasks}
use Rattle.canvas_report.specs.Wording.{row_said, said_at}
use Rattle.canvas_report.proofs.ReportLines.{whole}
use Rattle.canvas_report.proofs.wording.worded.Goals as goal

pub returns : goal.returns
returns c =
    whole (row_said c.args.naming c.args.fates.now c.args.rows.now) (said_at c.args.naming c.args.rows.now) c.args.plan.now
    (gives_a_list c.ends.result) (end_tasks c.ends.result) _ _ _ _ _ c.new-text.ensures.bytes c.in_ok-push_rows.ensures c.in_ok-put.ensures
    c.ends.ensures.tasks c.ends.ensures.list c.in_ok-push_result.ensures c.in_ok-put-2.ensures
