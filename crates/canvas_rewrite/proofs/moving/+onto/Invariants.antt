use Rattle.std.proofs.Common.{◌≡◌, ◌≤◌, ◌++◌, map, length}
use Rattle.canvas_semantics.specs.Tree.{no_trees}
use Rattle.canvas_values.specs.SignatureView.{view, trees_of}
use Rattle.canvas_rewrite.specs.LineView.{elements}
use Rattle.canvas_rewrite.specs.steps.Growing.{growing}
use Rattle.canvas_rewrite.specs.steps.Weight.{weight, weight_of}
use Rattle.canvas_semantics.specs.NormalLine.{onto, all_onto}
use Rattle.canvas_rewrite.proofs.moving.+onto.Given as goal

-- what is left goes onto the line so far
abbrev pub invariant-move_all_onto-loop-node : goal.invariant-move_all_onto-loop-node
invariant-move_all_onto-loop-node l =
    (all_onto (trees_of (map view l.left.items)) (growing l.line) ≡ all_onto (trees_of (map view l.fn.nodes.items)) (growing l.fn.after))
    × (weight_of l.left.items ≤ weight_of l.fn.nodes.items)

abbrev pub invariant-move_lines-loop-node : goal.invariant-move_lines-loop-node
invariant-move_lines-loop-node l =
    (map elements l.lines.items ++ map (λ n. onto (view n) no_trees) l.node-iterator.rest.items ≡ map (λ n. onto (view n) no_trees) l.fn.nodes.items)
    × (weight_of l.node-iterator.rest.items ≤ weight_of l.fn.nodes.items)

abbrev pub decreases-move_onto : goal.decreases-move_onto
decreases-move_onto l = weight (view l.node)

abbrev pub decreases-move_all_onto : goal.decreases-move_all_onto
decreases-move_all_onto l = weight_of l.nodes.items

abbrev pub decreases-move_lines : goal.decreases-move_lines
decreases-move_lines l = weight_of l.nodes.items

abbrev pub decreases-move_all_onto-loop-node : goal.decreases-move_all_onto-loop-node
decreases-move_all_onto-loop-node l = length l.left.items
