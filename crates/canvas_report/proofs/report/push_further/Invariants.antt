use Rattle.std.proofs.Common.{◌≡◌, ◌++◌, drop, string_bytes}
use Rattle.canvas_semantics.specs.States.{rows_from}
use Rattle.canvas_report.specs.steps.ReportRows.{run_value, listed_further}
use Rattle.canvas_report.proofs.report.push_further.Given as goal

-- the text so far, and the values still to come
abbrev pub invariant-loop-task : goal.invariant-loop-task
invariant-loop-task l =
    string_bytes l.text ++ listed_further (run_value (rows_from 1 l.rows)) (drop l.task-index l.tasks)
    ≡ string_bytes l.fn.text ++ listed_further (run_value (rows_from 1 l.rows)) l.tasks
