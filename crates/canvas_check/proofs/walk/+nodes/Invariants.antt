use Rattle.std.proofs.Common.{◌≡◌, ◌+◌, ◌++◌, map, drop, length}
use Rattle.canvas_values.specs.SignatureView.{view, trees_of}
use Rattle.canvas_check.specs.Foreseen.{elements_told, members_told, out_of_each}
use Rattle.canvas_check.proofs.walk.+nodes.Given as goal

abbrev pub invariant-push_elements-loop-node : goal.invariant-push_elements-loop-node
invariant-push_elements-loop-node g l = record {
  told : l.found.items ++ elements_told (g.T.Tasks.behaviour l.tasks) (trees_of (map view (drop l.node-index l.nodes))) l.here
      ≡ l.fn.found.items ++ elements_told (g.T.Tasks.behaviour l.tasks) (trees_of (map view l.nodes)) l.fn.position;
  out : out_of_each (trees_of (map view (drop l.node-index l.nodes))) l.here.input ≡ out_of_each (trees_of (map view l.nodes)) l.fn.position.input;
  left : l.left + l.node-index ≡ length l.nodes;
}

abbrev pub invariant-push_members-loop-node : goal.invariant-push_members-loop-node
invariant-push_members-loop-node g l =
    l.found.items ++ members_told (g.T.Tasks.behaviour l.tasks) (trees_of (map view (drop l.node-index l.nodes))) l.position
    ≡ l.fn.found.items ++ members_told (g.T.Tasks.behaviour l.tasks) (trees_of (map view l.nodes)) l.position
