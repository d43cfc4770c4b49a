use Rattle.std.proofs.Common.{◌≡◌}
use Rattle.canvas_surface.proofs.backends.stores_share.Given as goal

abbrev pub invariant-loop-index : goal.invariant-loop-index
invariant-loop-index l = l.seat.of ≡ l.backend.id
