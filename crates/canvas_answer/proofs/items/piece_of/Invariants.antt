use Rattle.std.proofs.Common.{◌≢◌, All, take}
use Rattle.canvas_answer.proofs.items.piece_of.Given as goal

abbrev pub invariant-loop-at : goal.invariant-loop-at
invariant-loop-at l = All (λ x. x ≢ l.end) (take l.at l.bytes)
