use Rattle.std.proofs.Common.{◌≡◌, max, map, drop}
use Rattle.canvas_rewrite.specs.FrozenView.{p_tasks_of, p_task_view}
use Rattle.canvas_envelope.specs.Unplaced.{greatest_in}
use Rattle.canvas_envelope.proofs.unplaced.+greatest.Given as goal

abbrev pub invariant-greatest_in-loop-task : goal.invariant-greatest_in-loop-task
invariant-greatest_in-loop-task l =
    max l.most (greatest_in (p_tasks_of (map p_task_view (drop l.task-index l.tasks)))) ≡ greatest_in (p_tasks_of (map p_task_view l.tasks))
