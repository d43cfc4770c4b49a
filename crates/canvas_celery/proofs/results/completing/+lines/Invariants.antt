use Rattle.std.proofs.Common.{◌≡◌, ℕ, map, drop}
use Rattle.canvas_semantics.specs.Line.{members}
use Rattle.canvas_rewrite.specs.FrozenView.{line_in, lines_of}
use Rattle.canvas_celery.specs.Completing.{all_completed}
use Rattle.canvas_celery.specs.FilledRows.{AreFilled}
use Rattle.canvas_celery.specs.Looks.{looks}
use Rattle.canvas_celery.proofs.results.completing.+lines.Given as goal

abbrev pub invariant-complete_all-loop-line : goal.invariant-complete_all-loop-line
invariant-complete_all-loop-line l =
    let table = λ (g : ℕ). members l.plan g in
    AreFilled l.fn.rows l.rows
    × (all_completed table (lines_of (map line_in (drop l.line-index l.lines))) l.flow (looks l.rows)
    ≡ all_completed table (lines_of (map line_in l.lines)) l.flow (looks l.fn.rows))
