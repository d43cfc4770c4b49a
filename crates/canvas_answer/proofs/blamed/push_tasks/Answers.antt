use Rattle.std.proofs.Common.{refl, map}
use Rattle.canvas_task.proofs.Turns.{put_all}
use Rattle.canvas_rewrite.specs.FrozenView.{task_in}
use Rattle.canvas_answer.specs.Blamed.{blame_said, is_bad_call}
use Rattle.canvas_answer.specs.steps.BlamedLists.{chain_blames}
use Rattle.canvas_answer.proofs.Blaming.{tasks_on, after_all}
use Rattle.canvas_answer.proofs.blamed.push_tasks.Goals as goal

pub loop-task-preserved : goal.loop-task-preserved
loop-task-preserved c =
    tasks_on c.args.stubs.now (is_bad_call c.args.fates.now c.args.report.now.rows) c.args.tasks.now c.loop-task.task-index c.task-item.result
    (map blame_said c.loop-task.found.items) (map blame_said c.push_task.new.found.items) _ c.loop-task.comes _
    c.loop-task-test.true c.task-item.is c.in_ok-push_task.ensures c.loop-task.invariant

pub returns-clause-pushed : goal.returns-clause-pushed
returns-clause-pushed c =
    put_all (λ ts. chain_blames c.args.stubs.now (is_bad_call c.args.fates.now c.args.report.now.rows) (map task_in ts) c.loop-task.comes)
    c.args.tasks.now c.loop-task.task-index
    (map blame_said c.loop-task.found.items) _ c.loop-task-test.false refl c.loop-task.invariant.0

pub returns-clause-after : goal.returns-clause-after
returns-clause-after c =
    after_all c.args.stubs.now (is_bad_call c.args.fates.now c.args.report.now.rows) c.args.tasks.now c.loop-task.task-index c.loop-task.comes _
    c.loop-task-test.false c.loop-task.invariant.1
