use Rattle.std.proofs.Common.{◌≡◌, ◌+◌, length}
use Rattle.canvas_celery.specs.Pieces.{lines_in}
use Rattle.canvas_celery.proofs.results.pieces.count_lines.Given as goal

abbrev pub invariant-loop-rest : goal.invariant-loop-rest
invariant-loop-rest l = l.count + length (lines_in l.rest) ≡ length (lines_in l.text)

abbrev pub decreases-loop-rest : goal.decreases-loop-rest
decreases-loop-rest l = length l.rest
