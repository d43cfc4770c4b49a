use Rattle.canvas_rewrite.specs.Ends.{gives_a_list, end_tasks}
use Rattle.canvas_report.proofs.RowLaws.{whole}
use Rattle.canvas_report.proofs.rows.lines_of.Goals as goal

pub returns : goal.returns
returns c =
    whole c.args.plan.now c.args.rows.now c.args.told.again (gives_a_list c.ends.result)
    (end_tasks c.ends.result) _ _ _ _ c.new-text.ensures.bytes c.in_ok-push_rows.ensures
    c.ends.ensures.tasks c.ends.ensures.list c.in_ok-push_end.ensures
