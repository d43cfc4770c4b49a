use Rattle.std.proofs.Common.{◌≡◌, ◌++◌, ◌+◌, drop, string_bytes}
use Rattle.canvas_semantics.specs.Line.{names}
use Rattle.canvas_semantics.specs.Report.{counted_from}
use Rattle.canvas_semantics.specs.States.{rows_from}
use Rattle.canvas_report.specs.Listing.{lines}
use Rattle.canvas_report.specs.steps.ReportRows.{run_line}
use Rattle.canvas_report.proofs.report.push_rows.Given as goal

-- the text so far, and the lines still to come
abbrev pub invariant-loop-index : goal.invariant-loop-index
invariant-loop-index l =
    string_bytes l.text ++ lines (run_line (rows_from 1 l.rows)) (counted_from (1 + l.index) (drop l.index (names l.plan)))
    ≡ string_bytes l.fn.text ++ lines (run_line (rows_from 1 l.rows)) (counted_from 1 (names l.plan))
