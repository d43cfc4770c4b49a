use Rattle.std.proofs.Common.{◌≡◌, map, take}
use Rattle.canvas_values.specs.SignatureView.{view}
use Rattle.canvas_semantics.specs.Compact.{compact}
use Rattle.canvas_rewrite.specs.FrozenView.{line_of}
use Rattle.canvas_rewrite.proofs.as_node.+as_node.Given as goal

abbrev pub invariant-line_nodes-loop-line : goal.invariant-line_nodes-loop-line
invariant-line_nodes-loop-line l = map view l.nodes.items ≡ map (λ x. compact (line_of x)) (take l.line-index l.lines)
