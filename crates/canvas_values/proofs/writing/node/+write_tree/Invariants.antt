use Rattle.std.proofs.Common.{◌≡◌, ◌++◌, map, drop}
use Rattle.canvas_values.specs.steps.Tokens.{rest_tokens}
use Rattle.canvas_values.specs.SignatureView.{view, trees_of}
use Rattle.canvas_values.specs.Writing.{trees_wire}
use Rattle.canvas_values.proofs.writing.node.+write_tree.Given as goal

abbrev pub invariant-write_nodes-loop-node : goal.invariant-write_nodes-loop-node
invariant-write_nodes-loop-node l =
    (l.out.tokens ++ rest_tokens (trees_wire (trees_of (map view (drop l.node-index l.nodes)))) ≡ l.fn.out.tokens
    ++ rest_tokens (trees_wire (trees_of (map view l.nodes)))) × (l.out.before ≡ l.fn.out.before)
