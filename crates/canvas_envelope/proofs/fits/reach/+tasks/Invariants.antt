use Rattle.std.proofs.Common.{◌≡◌, max, map, drop}
use Rattle.canvas_values.specs.steps.LineReach.{capped}
use Rattle.canvas_rewrite.specs.FrozenView.{p_tasks_of, p_lines_of, p_task_view, p_line_view}
use Rattle.canvas_envelope.specs.Fits.{tasks_reach, members_reach}
use Rattle.canvas_envelope.proofs.fits.reach.+tasks.Given as goal

abbrev pub invariant-tasks_reach-loop-task : goal.invariant-tasks_reach-loop-task
invariant-tasks_reach-loop-task l =
    max l.most (capped (tasks_reach (p_tasks_of (map p_task_view (drop l.task-index l.tasks))))) ≡ capped (tasks_reach (p_tasks_of (map p_task_view l.tasks)))

abbrev pub invariant-members_reach-loop-line : goal.invariant-members_reach-loop-line
invariant-members_reach-loop-line l =
    max l.most (capped (members_reach l.carried (p_lines_of (map p_line_view (drop l.line-index l.lines)))))
    ≡ capped (members_reach l.carried (p_lines_of (map p_line_view l.lines)))
