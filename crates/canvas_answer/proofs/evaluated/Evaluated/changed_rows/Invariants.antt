use Rattle.std.proofs.Common.{◌≡◌, ◌++◌, ◌+◌, drop, map, string_bytes}
use Rattle.std.specs.List.{filter_map}
use Rattle.canvas_semantics.specs.Line.{names}
use Rattle.canvas_semantics.specs.Report.{counted_from}
use Rattle.canvas_answer.specs.Cases.{AreAllRows, changed_object}
use Rattle.canvas_answer.proofs.evaluated.Evaluated.changed_rows.Given as goal

-- the rows so far, and those still to come
abbrev pub invariant-loop-place : goal.invariant-loop-place
invariant-loop-place l =
    AreAllRows l.base.told l.plan (map string_bytes l.base.rows.items)
    → map string_bytes l.found.items ++ filter_map (changed_object l.self l.base.told) (counted_from (1 + l.place) (drop l.place (names l.plan)))
    ≡ filter_map (changed_object l.self l.base.told) (counted_from 1 (names l.plan))
