use Rattle.std.proofs.Common.{◌≡◌, map, drop}
use Rattle.canvas_rewrite.specs.FrozenView.{p_tasks_of, p_lines_of, p_task_view, p_line_view}
use Rattle.canvas_runs.specs.Book.{tasks_known, members_known}
use Rattle.canvas_core.proofs.known.+known.Given as goal

abbrev pub invariant-members_known-loop-member : goal.invariant-members_known-loop-member
invariant-members_known-loop-member g l =
    members_known (g.B.Book.book l.book) l.group (p_lines_of (map p_line_view l.members))
    ≡ members_known (g.B.Book.book l.book) l.group (p_lines_of (map p_line_view (drop l.member-index l.members)))

abbrev pub invariant-tasks_known-loop-task : goal.invariant-tasks_known-loop-task
invariant-tasks_known-loop-task g l =
    tasks_known (g.B.Book.book l.book) (p_tasks_of (map p_task_view l.tasks))
    ≡ tasks_known (g.B.Book.book l.book) (p_tasks_of (map p_task_view (drop l.task-index l.tasks)))

abbrev pub invariant-known_from-loop-index : goal.invariant-known_from-loop-index
invariant-known_from-loop-index g l =
    tasks_known (g.B.Book.book l.book) (p_tasks_of (map p_task_view (drop l.start l.tasks)))
    ≡ tasks_known (g.B.Book.book l.book) (p_tasks_of (map p_task_view (drop l.index l.tasks)))
