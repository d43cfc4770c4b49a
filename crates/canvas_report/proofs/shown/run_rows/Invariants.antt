use Rattle.std.proofs.Common.{◌≡◌, ◌++◌, map, drop}
use Rattle.canvas_report.specs.declared.row.Row.TheVariants as row
use Rattle.canvas_report.proofs.shown.run_rows.Given as goal

-- the rows so far, and those to come
abbrev pub invariant-loop-row : goal.invariant-loop-row
invariant-loop-row l = l.rows.items ++ map (λ s. row.Known s) (drop l.row-index l.row-items) ≡ map (λ s. row.Known s) l.report.rows
