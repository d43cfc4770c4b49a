use Rattle.std.proofs.Common.{◌≡◌, ◌++◌, false, drop, string_bytes}
use Rattle.canvas_report.specs.RowTexts.{identifiers_json}
use Rattle.canvas_report.proofs.rows.push_end_tasks.Given as goal

-- the text so far, and the identifiers to come
abbrev pub invariant-loop-task : goal.invariant-loop-task
invariant-loop-task l =
    string_bytes l.text ++ identifiers_json l.later (drop l.task-index l.tasks) ≡ string_bytes l.fn.text ++ identifiers_json false l.tasks
