use Rattle.std.proofs.Common.{◌≡◌, ◌++◌, map, string_bytes, drop}
use Rattle.canvas_answer.specs.Items.{more_rows}
use Rattle.canvas_answer.proofs.each.push_rows.Given as goal

-- the rows so far, and those to come
abbrev pub invariant-loop-row : goal.invariant-loop-row
invariant-loop-row l =
    string_bytes l.out ++ more_rows (map (λ row. row.now) (drop l.row-index l.others))
    ≡ string_bytes l.initial.out ++ more_rows (map (λ row. row.now) l.others)
