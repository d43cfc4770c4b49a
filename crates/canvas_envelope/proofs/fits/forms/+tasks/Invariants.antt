use Rattle.std.proofs.Common.{◌≡◌, map, drop}
use Rattle.canvas_rewrite.specs.FrozenView.{p_tasks_of, p_lines_of, p_task_view, p_line_view}
use Rattle.canvas_envelope.specs.Fits.{tasks_ok, members_ok}
use Rattle.canvas_envelope.proofs.fits.forms.+tasks.Given as goal

abbrev pub invariant-tasks_fit-loop-task : goal.invariant-tasks_fit-loop-task
invariant-tasks_fit-loop-task l =
    tasks_ok (p_tasks_of (map p_task_view l.tasks)) ≡ tasks_ok (p_tasks_of (map p_task_view (drop l.task-index l.tasks)))

abbrev pub invariant-members_fit-loop-line : goal.invariant-members_fit-loop-line
invariant-members_fit-loop-line l =
    members_ok (p_lines_of (map p_line_view l.lines)) ≡ members_ok (p_lines_of (map p_line_view (drop l.line-index l.lines)))
