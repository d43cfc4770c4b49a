use Rattle.std.proofs.Common.{[], None, refl}
use Rattle.canvas_rewrite.specs.Ends.{gives_a_list, end_tasks}
use Rattle.canvas_report.proofs.RowLaws.{whole}
use Rattle.canvas_report.proofs.rows.result_text.Goals as goal

pub returns : goal.returns
returns c =
    whole c.args.plan.now c.args.rows.now None (gives_a_list c.ends.result) (end_tasks c.ends.result) [] _ _ [] refl c.new-text.ensures.bytes
    c.ends.ensures.tasks c.ends.ensures.list c.in_ok-push_end.ensures
