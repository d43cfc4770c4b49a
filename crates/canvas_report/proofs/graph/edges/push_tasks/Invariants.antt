use Rattle.std.proofs.Common.{◌≡◌, ◌++◌, None, map, drop}
use Rattle.canvas_rewrite.specs.FrozenView.{task_in}
use Rattle.canvas_report.specs.steps.EdgeLists.{tasks_edges, last_node}
use Rattle.canvas_report.proofs.graph.edges.push_tasks.Given as goal

abbrev pub invariant-loop-task : goal.invariant-loop-task
invariant-loop-task l = record {
  pushed : l.edges.items ++ tasks_edges l.before (map task_in (drop l.task-index l.tasks)) ≡ l.fn.edges.items ++ tasks_edges None (map task_in l.tasks);
  last : last_node l.before (map task_in (drop l.task-index l.tasks)) ≡ last_node None (map task_in l.tasks);
}
