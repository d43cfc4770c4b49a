use Rattle.std.proofs.Common.{◌≡◌, map, take}
use Rattle.canvas_sig.proofs.WithFronts.{member_of}
use Rattle.canvas_sig.proofs.fronts.without_fronts.Given as goal

abbrev pub invariant-loop-one : goal.invariant-loop-one
invariant-loop-one l = l.members.items ≡ map member_of (take l.one-index l.fronted)
