use Rattle.std.proofs.Common.{List, map, refl}
use Rattle.canvas_task.proofs.Turns.{put_all}
use Rattle.canvas_rewrite.specs.FrozenView.{task_in}
use Rattle.canvas_rewrite.specs.declared.frozen.FrozenTask.{FrozenTask}
use Rattle.canvas_report.specs.steps.EdgeLists.{tasks_edges}
use Rattle.canvas_report.proofs.EdgeParts.{tasks_next, last_next, last_ended}
use Rattle.canvas_report.proofs.graph.edges.push_tasks.Goals as goal

pub loop-task-init : goal.loop-task-init
loop-task-init c = record { pushed = refl; last = refl }

pub loop-task-preserved : goal.loop-task-preserved
loop-task-preserved c =
    let ts = c.args.tasks.now in
    let i = c.loop-task.task-index in
    record {
      pushed = tasks_next ts i c.task-item.result c.loop-task.before c.node_of-node.result c.loop-task.edges.items c.push_task.new.edges.items
          c.push_behind.new.edges.items _ c.loop-task-test.true c.task-item.is c.node_of-node.ensures c.loop-task.invariant.pushed c.in_ok-push_task.ensures
          c.in_ok-push_behind.ensures;
      last = last_next ts i c.task-item.result c.loop-task.before _ c.node_of-node.result c.loop-task-test.true c.task-item.is c.node_of-node.ensures
          c.loop-task.invariant.last;
    }

pub returns-clause-pushed : goal.returns-clause-pushed
returns-clause-pushed c =
    put_all (λ (ts : List FrozenTask). tasks_edges c.loop-task.before (map task_in ts)) c.args.tasks.now c.loop-task.task-index c.loop-task.edges.items _
    c.loop-task-test.false refl c.loop-task.invariant.pushed

pub returns-clause-last : goal.returns-clause-last
returns-clause-last c = last_ended c.args.tasks.now c.loop-task.task-index c.loop-task.before _ c.loop-task-test.false c.loop-task.invariant.last
