use Rattle.std.proofs.Common.{◌≡◌, ◌+◌, map, drop}
use Rattle.canvas_semantics.specs.Tree.{count_all_groups}
use Rattle.canvas_values.specs.SignatureView.{view, trees_of}
use Rattle.canvas_values.proofs.counting.+groups.Given as goal

-- what is left, less those still to come, is what will be left
abbrev pub invariant-groups_left_of_all-loop-node : goal.invariant-groups_left_of_all-loop-node
invariant-groups_left_of_all-loop-node l =
    l.fn.left + count_all_groups (trees_of (map view (drop l.node-index l.nodes))) ≡ l.left + count_all_groups (trees_of (map view l.nodes))
