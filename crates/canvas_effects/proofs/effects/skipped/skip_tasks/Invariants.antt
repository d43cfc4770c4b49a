use Rattle.std.proofs.Common.{◌≡◌, ◌++◌, map, drop}
use Rattle.canvas_rewrite.specs.FrozenView.{p_task_view}
use Rattle.canvas_effects.specs.steps.Walks.{skipped_tasks}
use Rattle.canvas_effects.proofs.effects.skipped.skip_tasks.Given as goal

abbrev pub invariant-loop-task : goal.invariant-loop-task
invariant-loop-task l =
    l.stores.items ++ skipped_tasks l.fault (map p_task_view (drop l.task-index l.tasks)) ≡ l.fn.stores.items ++ skipped_tasks l.fault (map p_task_view l.tasks)
