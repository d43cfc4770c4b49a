use Rattle.std.proofs.Common.{◌≡◌, ◌+◌, map, drop}
use Rattle.canvas_semantics.specs.Tree.{count_all}
use Rattle.canvas_values.specs.SignatureView.{view, trees_of}
use Rattle.canvas_adapt.proofs.counting.+counting.Given as goal

-- what is left, less those still to come, is what will be left
abbrev pub invariant-left_after_nodes-loop-node : goal.invariant-left_after_nodes-loop-node
invariant-left_after_nodes-loop-node l =
    l.fn.left + count_all (trees_of (map view (drop l.node-index l.nodes))) ≡ l.left + count_all (trees_of (map view l.nodes))
