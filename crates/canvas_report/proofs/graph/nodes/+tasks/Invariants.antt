use Rattle.std.proofs.Common.{string_bytes, map, drop}
use Rattle.std.specs.Prelude.{option_map}
use Rattle.canvas_task.specs.Text.{Text}
use Rattle.canvas_rewrite.specs.FrozenView.{task_in}
use Rattle.canvas_report.specs.Nodes.{looks}
use Rattle.canvas_report.specs.steps.PieceLists.{Adds, tasks_pieces}
use Rattle.canvas_report.proofs.graph.nodes.+tasks.Given as goal

-- what the rest adds, all add
abbrev pub invariant-push_tasks-loop-task : goal.invariant-push_tasks-loop-task
invariant-push_tasks-loop-task l =
    let at = looks l.seen.fates.now (option_map (λ rows. rows.now) l.seen.rows) in
    (new : Text) → Adds at (tasks_pieces (map task_in (drop l.task-index l.tasks))) (string_bytes l.text) new
    → Adds at (tasks_pieces (map task_in l.tasks)) (string_bytes l.fn.text) new
