use Rattle.std.proofs.Common.{◌≡◌}
use Rattle.canvas_surface.proofs.queues.accepted.Given as goal

abbrev pub invariant-loop-number : goal.invariant-loop-number
invariant-loop-number g l = l.pass.of ≡ l.broker
