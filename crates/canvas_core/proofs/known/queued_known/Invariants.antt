use Rattle.std.proofs.Common.{◌≡◌, map, drop}
use Rattle.canvas_rewrite.specs.FrozenView.{p_tasks_of, p_task_view}
use Rattle.canvas_runs.specs.Book.{tasks_known}
use Rattle.canvas_core.proofs.known.queued_known.Given as goal

abbrev pub invariant-loop-index : goal.invariant-loop-index
invariant-loop-index g l =
    tasks_known (g.B.Book.book l.book) (p_tasks_of (map p_task_view (drop l.start l.tasks.items)))
    ≡ tasks_known (g.B.Book.book l.book) (p_tasks_of (map p_task_view (drop l.index l.tasks.items)))
