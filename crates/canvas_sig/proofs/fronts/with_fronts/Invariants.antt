use Rattle.std.proofs.Common.{◌≡◌, map, take}
use Rattle.canvas_sig.proofs.WithFronts.{member_of}
use Rattle.canvas_sig.proofs.fronts.with_fronts.Given as goal

abbrev pub invariant-loop-member : goal.invariant-loop-member
invariant-loop-member l = map member_of l.fronted.items ≡ take l.member-index l.members
