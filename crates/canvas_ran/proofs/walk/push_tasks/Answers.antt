use Rattle.std.proofs.Common.{refl, map, ◌∙◌, ap}
use Rattle.canvas_task.proofs.Turns.{put_all}
use Rattle.canvas_rewrite.specs.FrozenView.{task_in}
use Rattle.canvas_semantics.specs.States.{rows_from}
use Rattle.canvas_ran.specs.Seen.{after}
use Rattle.canvas_ran.specs.steps.SeenLists.{tasks_seen}
use Rattle.canvas_ran.proofs.Walks.{tasks_on, behind_all}
use Rattle.canvas_ran.proofs.walk.push_tasks.Goals as goal

pub loop-task-preserved : goal.loop-task-preserved
loop-task-preserved c =
    tasks_on (rows_from 1 c.args.rows.now) c.args.tasks.now c.loop-task.task-index c.task-item.result
    c.loop-task.found.items c.push_task.new.found.items _ c.loop-task.comes c.after-comes.result _
    c.loop-task-test.true c.task-item.is c.in_ok-push_task.ensures
    (c.after-comes.ensures ∙ ap (after c.loop-task.comes _) c.state_in.ensures) c.loop-task.invariant

pub returns-clause-pushed : goal.returns-clause-pushed
returns-clause-pushed c =
    put_all (λ ts. tasks_seen (rows_from 1 c.args.rows.now) (map task_in ts) c.loop-task.comes) c.args.tasks.now c.loop-task.task-index
    c.loop-task.found.items _ c.loop-task-test.false refl c.loop-task.invariant.0

pub returns-clause-behind : goal.returns-clause-behind
returns-clause-behind c =
    behind_all (rows_from 1 c.args.rows.now) c.args.tasks.now c.loop-task.task-index c.loop-task.comes _
    c.loop-task-test.false c.loop-task.invariant.1
