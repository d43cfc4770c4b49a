use Rattle.std.proofs.Common.{◌≡◌, drop}
use Rattle.canvas_celery.specs.Completing.{gathered_from}
use Rattle.canvas_celery.specs.Looks.{looks}
use Rattle.canvas_celery.specs.declared.results.completing.Flow.TheVariants.{Value}
use Rattle.canvas_celery.proofs.results.completing.gathered.Given as goal

abbrev pub invariant-loop-last : goal.invariant-loop-last
invariant-loop-last l =
    gathered_from l.flow (drop l.last-index l.lasts) (looks l.rows) ≡ gathered_from Value l.lasts (looks l.rows)
