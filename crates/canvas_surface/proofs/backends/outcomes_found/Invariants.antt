use Rattle.std.proofs.Common.{◌≡◌}
use Rattle.canvas_surface.proofs.backends.outcomes_found.Given as goal

abbrev pub invariant-loop-index : goal.invariant-loop-index
invariant-loop-index l = l.seat.of ≡ l.backend.id
