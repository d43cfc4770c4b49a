use Rattle.std.proofs.Common.{◌≡◌, ◌++◌, drop}
use Rattle.canvas_values.specs.steps.Tokens.{rest_tokens}
use Rattle.canvas_report.specs.JsonRows.{identifiers_wire}
use Rattle.canvas_ran.proofs.calls.lines.write_tasks.Given as goal

abbrev pub invariant-loop-task : goal.invariant-loop-task
invariant-loop-task l =
    (l.out.tokens ++ rest_tokens (identifiers_wire (drop l.task-index l.tasks))
    ≡ l.fn.out.tokens ++ rest_tokens (identifiers_wire l.tasks)) × (l.out.before ≡ l.fn.out.before)
