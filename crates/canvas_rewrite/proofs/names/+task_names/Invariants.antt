use Rattle.std.proofs.Common.{◌≡◌, ◌++◌, map, drop}
use Rattle.canvas_rewrite.specs.FrozenView.{task_in}
use Rattle.canvas_semantics.specs.steps.Numbering.{tasks_all_names}
use Rattle.canvas_rewrite.proofs.names.+task_names.Given as goal

abbrev pub invariant-push_tasks-loop-task : goal.invariant-push_tasks-loop-task
invariant-push_tasks-loop-task l =
    l.found ++ tasks_all_names (map task_in (drop l.task-index l.tasks)) ≡ l.fn.found ++ tasks_all_names (map task_in l.tasks)
