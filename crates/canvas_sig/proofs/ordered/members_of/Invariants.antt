use Rattle.std.proofs.Common.{◌≡◌, ◌++◌}
use Rattle.canvas_sig.proofs.ordered.members_of.Given as goal

abbrev pub invariant-loop-name : goal.invariant-loop-name
invariant-loop-name l = l.ordered.entries ≡ l.members.items ++ l.name-iterator
