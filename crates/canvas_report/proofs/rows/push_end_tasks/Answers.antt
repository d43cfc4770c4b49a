use Rattle.canvas_report.proofs.RowLaws.{identifiers_on}
use Rattle.canvas_report.proofs.rows.push_end_tasks.Goals as goal

pub loop-task-preserved : goal.loop-task-preserved
loop-task-preserved c =
    identifiers_on c.args.tasks.now c.loop-task.task-index c.task-item.result c.loop-task.later _ _ _ _ c.loop-task-test.true c.task-item.is
    c.in_ok-push_comma.ensures c.in_ok-push_end_task.ensures c.loop-task.invariant
