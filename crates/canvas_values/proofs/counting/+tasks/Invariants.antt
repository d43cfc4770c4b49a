use Rattle.std.proofs.Common.{◌≡◌, ◌+◌, map, drop}
use Rattle.canvas_semantics.specs.Tree.{count_all}
use Rattle.canvas_values.specs.SignatureView.{view, trees_of}
use Rattle.canvas_values.proofs.counting.+tasks.Given as goal

-- what is left, less those still to come, is what will be left
abbrev pub invariant-tasks_left_of_all-loop-node : goal.invariant-tasks_left_of_all-loop-node
invariant-tasks_left_of_all-loop-node l =
    l.fn.left + count_all (trees_of (map view (drop l.node-index l.nodes))) ≡ l.left + count_all (trees_of (map view l.nodes))
