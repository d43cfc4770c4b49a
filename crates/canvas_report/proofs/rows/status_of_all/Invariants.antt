use Rattle.std.proofs.Common.{◌≡◌, drop}
use Rattle.canvas_report.specs.JsonRows.{worse, status_of_all}
use Rattle.canvas_report.specs.RowTexts.{statuses}
use Rattle.canvas_report.proofs.rows.status_of_all.Given as goal

-- of those so far, and those to come
abbrev pub invariant-loop-task : goal.invariant-loop-task
invariant-loop-task l =
    worse l.status (status_of_all (statuses l.rows (drop l.task-index l.tasks))) ≡ status_of_all (statuses l.rows l.tasks)
