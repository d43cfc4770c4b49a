use Rattle.std.proofs.Common.{◌≡◌, List, ℕ, map, drop}
use Rattle.canvas_semantics.specs.Line.{Line}
use Rattle.canvas_rewrite.specs.FrozenView.{task_in, steps_onto}
use Rattle.canvas_celery.specs.Completing.{completed}
use Rattle.canvas_celery.specs.FilledRows.{AreFilled}
use Rattle.canvas_celery.specs.Looks.{looks}
use Rattle.canvas_celery.proofs.results.completing.complete_tasks.Given as goal

abbrev pub invariant-loop-task : goal.invariant-loop-task
invariant-loop-task l =
    AreFilled l.fn.rows l.rows
    × ((table : ℕ → List ℕ) (rest : Line) → completed table (steps_onto (map task_in (drop l.task-index l.tasks)) rest) l.last (looks l.rows)
    ≡ completed table (steps_onto (map task_in l.tasks) rest) l.fn.flow (looks l.fn.rows))
