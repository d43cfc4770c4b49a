use Rattle.std.proofs.Common.{◌-◌, ◌≤◌, length, take}
use Rattle.canvas_sig.specs.steps.Names.{AllBelow}
use Rattle.canvas_sig.proofs.ordered.place_of.Given as goal

abbrev pub invariant-members : goal.invariant-members
invariant-members l = (l.index ≤ length l.members) × AllBelow (take l.index l.members) l.name

abbrev pub decreases-members : goal.decreases-members
decreases-members l = length l.members - l.index
