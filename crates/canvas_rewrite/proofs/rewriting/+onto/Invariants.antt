use Rattle.std.proofs.Common.{◌≡◌, ◌≤◌, length, map, take, drop}
use Rattle.canvas_semantics.specs.Tree.{no_trees}
use Rattle.canvas_values.specs.SignatureView.{view, trees_of}
use Rattle.canvas_rewrite.specs.LineView.{elements}
use Rattle.canvas_rewrite.specs.steps.Growing.{growing}
use Rattle.canvas_semantics.specs.NormalLine.{onto, all_onto}
use Rattle.canvas_rewrite.proofs.rewriting.+onto.Given as goal

-- the line so far is that of the nodes from the place on
abbrev pub invariant-all_onto-loop-left : goal.invariant-all_onto-loop-left
invariant-all_onto-loop-left l =
    (l.left ≤ length l.nodes) × (growing l.line ≡ all_onto (trees_of (map view (drop l.left l.nodes))) (growing l.fn.after))

abbrev pub invariant-lines_of-loop-node : goal.invariant-lines_of-loop-node
invariant-lines_of-loop-node l =
    map elements l.lines.items ≡ map (λ n. onto (view n) no_trees) (take l.node-index l.nodes)

abbrev pub decreases-all_onto-loop-left : goal.decreases-all_onto-loop-left
decreases-all_onto-loop-left l = l.left
