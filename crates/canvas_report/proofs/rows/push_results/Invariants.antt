use Rattle.std.proofs.Common.{◌≡◌, ◌++◌, false, drop, string_bytes}
use Rattle.canvas_report.specs.RowTexts.{listed_json}
use Rattle.canvas_report.proofs.rows.push_results.Given as goal

-- the text so far, and the results to come
abbrev pub invariant-loop-task : goal.invariant-loop-task
invariant-loop-task l =
    string_bytes l.text ++ listed_json l.later l.rows (drop l.task-index l.tasks) ≡ string_bytes l.fn.text ++ listed_json false l.rows l.tasks
