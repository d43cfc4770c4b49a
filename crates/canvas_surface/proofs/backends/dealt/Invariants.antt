use Rattle.std.proofs.Common.{◌≡◌, All, IfSome}
use Rattle.canvas_surface.proofs.backends.dealt.Given as goal

abbrev pub invariant-loop-number : goal.invariant-loop-number
invariant-loop-number l = (l.seat.of ≡ l.backend.id) × All (λ s. IfSome s.seat (λ t. t.of ≡ l.backend.id)) l.shares.items
