use Rattle.std.proofs.Common.{All}
use Rattle.canvas_task.specs.Apply.{IsInRange}
use Rattle.canvas_surface.proofs.forged.outcomes_of.Given as goal

abbrev pub invariant-loop-word : goal.invariant-loop-word
invariant-loop-word l = All (λ e. IsInRange e.1) l.outcomes.items
