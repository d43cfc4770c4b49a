use Rattle.canvas_ran.proofs.Called.Walks.{end_on, end_all}
use Rattle.canvas_ran.proofs.calls.ends.tasks_end.Goals as goal

pub loop-task-preserved : goal.loop-task-preserved
loop-task-preserved c =
    end_on c.args.fates.now c.args.tasks.now c.loop-task.task-index c.task-item.result c.loop-task.ends.items _ _
    c.loop-task-test.true c.task-item.is c.in_ok-ends.ensures c.loop-task.invariant

pub returns : goal.returns
returns c =
    end_all c.args.fates.now c.args.tasks.now c.loop-task.task-index c.loop-task.ends.items _
    c.loop-task-test.false c.loop-task.invariant
