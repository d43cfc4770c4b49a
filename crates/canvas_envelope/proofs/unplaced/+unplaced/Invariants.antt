use Rattle.std.proofs.Common.{◌≡◌, map, drop}
use Rattle.canvas_rewrite.specs.FrozenView.{p_tasks_of, p_task_view}
use Rattle.canvas_envelope.specs.Unplaced.{all_unplaced}
use Rattle.canvas_envelope.proofs.unplaced.+unplaced.Given as goal

abbrev pub invariant-all_unplaced-loop-task : goal.invariant-all_unplaced-loop-task
invariant-all_unplaced-loop-task l =
    all_unplaced (p_tasks_of (map p_task_view l.tasks)) ≡ all_unplaced (p_tasks_of (map p_task_view (drop l.task-index l.tasks)))
