use Rattle.std.proofs.Common.{◌≡◌, map, take}
use Rattle.canvas_semantics.specs.Tree.{one}
use Rattle.canvas_values.specs.SignatureView.{view, task_view}
use Rattle.canvas_rewrite.proofs.as_node.task_nodes.Given as goal

abbrev pub invariant-loop-sig : goal.invariant-loop-sig
invariant-loop-sig l = map view l.nodes.items ≡ map (λ s. one (task_view s)) (take l.sig-index l.sigs)
