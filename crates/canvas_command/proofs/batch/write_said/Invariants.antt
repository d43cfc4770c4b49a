-- The lines of the slots so far are printed.

use Rattle.canvas_command.specs.steps.Batches.{IsPrinted}
use Rattle.canvas_command.proofs.batch.write_said.Given as goal

abbrev pub invariant-loop-slot : goal.invariant-loop-slot
invariant-loop-slot g l =
    IsPrinted (g.W.Write.contents l.fn.out) (g.W.Write.contents l.out) l.yielded l.failed
