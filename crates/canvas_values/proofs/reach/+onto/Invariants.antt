use Rattle.std.proofs.Common.{◌≡◌, ◌≤◌, max, length, map, drop}
use Rattle.canvas_values.specs.steps.LineReach.{all_onto_reach, greatest}
use Rattle.canvas_values.specs.SignatureView.{view, trees_of}
use Rattle.canvas_values.proofs.reach.+onto.Given as goal

-- the line so far is that of the nodes from the place on
abbrev pub invariant-all_onto_reach-loop-left : goal.invariant-all_onto_reach-loop-left
invariant-all_onto_reach-loop-left l =
    (l.left ≤ length l.nodes) × (l.line ≡ all_onto_reach (trees_of (map view (drop l.left l.nodes))) l.fn.after l.carried)

abbrev pub decreases-all_onto_reach-loop-left : goal.decreases-all_onto_reach-loop-left
decreases-all_onto_reach-loop-left l = l.left

abbrev pub invariant-greatest-loop-member : goal.invariant-greatest-loop-member
invariant-greatest-loop-member l =
    max l.most (greatest (trees_of (map view (drop l.member-index l.members))) l.carried) ≡ greatest (trees_of (map view l.members)) l.carried
