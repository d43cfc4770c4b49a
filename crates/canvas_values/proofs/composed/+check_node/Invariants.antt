use Rattle.std.proofs.Common.{◌≡◌, map, drop}
use Rattle.canvas_values.specs.ComposedRefusals.{all_fault}
use Rattle.canvas_values.specs.SignatureView.{view, trees_of}
use Rattle.canvas_values.specs.Writable.{AreComposed}
use Rattle.canvas_values.proofs.composed.+check_node.Given as goal

abbrev pub invariant-check_nodes-loop-node : goal.invariant-check_nodes-loop-node
invariant-check_nodes-loop-node l = record {
  same : all_fault (trees_of (map view l.nodes)) ≡ all_fault (trees_of (map view (drop l.node-index l.nodes)));
  enough : AreComposed (trees_of (map view (drop l.node-index l.nodes))) → AreComposed (trees_of (map view l.nodes));
}
