use Rattle.std.proofs.Common.{take}
use Rattle.canvas_semantics.specs.Line.{names}
use Rattle.canvas_celery.proofs.Exported.MarkedNames.{Unmarked}
use Rattle.canvas_celery.proofs.commands.filled.marked_name.Given as goal

abbrev pub invariant-loop-index : goal.invariant-loop-index
invariant-loop-index l = Unmarked (take l.index (names l.plan))
