use Rattle.std.proofs.Common.{refl, map}
use Rattle.canvas_task.proofs.Turns.{put_all}
use Rattle.canvas_rewrite.specs.FrozenView.{task_in}
use Rattle.canvas_ran.specs.steps.FrontLists.{tasks_fronts_of}
use Rattle.canvas_ran.proofs.Called.Walks.{tasks_on, behind_all}
use Rattle.canvas_ran.proofs.calls.walk.push_tasks.Goals as goal

pub loop-task-preserved : goal.loop-task-preserved
loop-task-preserved c =
    tasks_on c.args.fates.now c.args.tasks.now c.loop-task.task-index c.task-item.result
    c.loop-task.found.items c.push_task.new.found.items _ c.loop-task.comes _ _
    c.loop-task-test.true c.task-item.is c.in_ok-push_task.ensures
    c.in_ok-comes-2.ensures c.loop-task.invariant

pub returns-clause-pushed : goal.returns-clause-pushed
returns-clause-pushed c =
    put_all (λ ts. tasks_fronts_of c.args.fates.now (map task_in ts) c.loop-task.comes) c.args.tasks.now c.loop-task.task-index
    c.loop-task.found.items _ c.loop-task-test.false refl c.loop-task.invariant.0

pub returns-clause-behind : goal.returns-clause-behind
returns-clause-behind c =
    behind_all c.args.fates.now c.args.tasks.now c.loop-task.task-index c.loop-task.comes _
    c.loop-task-test.false c.loop-task.invariant.1
