use Rattle.std.proofs.Common.{◌≡◌, drop}
use Rattle.canvas_semantics.specs.Evaluation.{with_states}
use Rattle.canvas_semantics.specs.States.{rows_from}
use Rattle.canvas_report.specs.Failing.{any_failed}
use Rattle.canvas_report.proofs.failing.any_failed.Given as goal

-- none before failed, so any that failed is among those still to come
abbrev pub invariant-loop-task : goal.invariant-loop-task
invariant-loop-task l =
    any_failed (with_states (rows_from 1 l.rows) (drop l.task-index l.tasks)) ≡ any_failed
    (with_states (rows_from 1 l.rows) l.tasks)
