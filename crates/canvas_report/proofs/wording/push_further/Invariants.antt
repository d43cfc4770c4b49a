use Rattle.std.proofs.Common.{◌≡◌, ◌++◌, drop, string_bytes}
use Rattle.canvas_report.specs.Wording.{said_at}
use Rattle.canvas_report.specs.steps.ReportRows.{listed_further}
use Rattle.canvas_report.proofs.wording.push_further.Given as goal

-- the text so far, and the values still to come
abbrev pub invariant-loop-task : goal.invariant-loop-task
invariant-loop-task l =
    string_bytes l.text ++ listed_further (said_at l.naming l.rows) (drop l.task-index l.tasks)
    ≡ string_bytes l.fn.text ++ listed_further (said_at l.naming l.rows) l.tasks
