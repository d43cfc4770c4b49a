use Rattle.std.proofs.Common.{◌≡◌, ◌++◌, ◌+◌, drop, string_bytes}
use Rattle.canvas_semantics.specs.Line.{names}
use Rattle.canvas_semantics.specs.Report.{counted_from}
use Rattle.canvas_report.specs.JsonRows.{parameter_of}
use Rattle.canvas_report.specs.Listing.{lines}
use Rattle.canvas_report.specs.RowTexts.{row_line}
use Rattle.canvas_report.proofs.rows.push_rows.Given as goal

-- the text so far, and the lines still to come
abbrev pub invariant-loop-index : goal.invariant-loop-index
invariant-loop-index l =
    string_bytes l.text ++ lines (row_line l.told.fates.now (parameter_of l.told.blamed.now) l.rows) (counted_from (1 + l.index) (drop l.index (names l.plan)))
    ≡ string_bytes l.fn.text ++ lines (row_line l.told.fates.now (parameter_of l.told.blamed.now) l.rows) (counted_from 1 (names l.plan))
