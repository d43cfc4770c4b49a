use Rattle.std.proofs.Common.{◌≡◌, map, take}
use Rattle.canvas_rewrite.specs.FrozenView.{p_task_view}
use Rattle.canvas_effects.proofs.copies.+copy.Given as goal

abbrev pub invariant-copy_tasks-loop-task : goal.invariant-copy_tasks-loop-task
invariant-copy_tasks-loop-task l = map p_task_view l.copies.items ≡ map p_task_view (take l.task-index l.tasks)
