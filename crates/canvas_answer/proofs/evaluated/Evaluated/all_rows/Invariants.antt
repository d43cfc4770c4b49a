use Rattle.std.proofs.Common.{◌≡◌, ◌++◌, ◌+◌, drop, map, string_bytes}
use Rattle.canvas_semantics.specs.Line.{names}
use Rattle.canvas_semantics.specs.Report.{counted_from}
use Rattle.canvas_answer.specs.Cases.{row_object}
use Rattle.canvas_answer.proofs.evaluated.Evaluated.all_rows.Given as goal

-- the rows so far, and those still to come
abbrev pub invariant-loop-index : goal.invariant-loop-index
invariant-loop-index l =
    map string_bytes l.rows.items ++ map (row_object l.self) (counted_from (1 + l.index) (drop l.index (names l.plan)))
    ≡ map (row_object l.self) (counted_from 1 (names l.plan))
