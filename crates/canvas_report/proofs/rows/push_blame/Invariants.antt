use Rattle.std.proofs.Common.{◌≡◌, drop}
use Rattle.canvas_report.specs.JsonRows.{parameter_of}
use Rattle.canvas_report.proofs.rows.push_blame.Given as goal

-- no parameter came before
abbrev pub invariant-loop-of : goal.invariant-loop-of
invariant-loop-of l = record {
  same : l.text ≡ l.fn.text;
  told : parameter_of (drop l.of-index l.blamed) l.task ≡ parameter_of l.blamed l.task;
}
