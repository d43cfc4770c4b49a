use Rattle.std.proofs.Common.{ℕ, ◌<◌, ◌≤◌, get_or}
use Rattle.canvas_semantics.specs.Nesting.{nesting}
use Rattle.canvas_values.specs.SignatureView.{view}
use Rattle.canvas_values.specs.declared.node.Node.{Node}
use Rattle.canvas_values.proofs.nesting.+nests.Given as goal

abbrev pub invariant-all_nest_within-loop-node : goal.invariant-all_nest_within-loop-node
invariant-all_nest_within-loop-node l = (k : ℕ) (n : Node) → k < l.node-index → nesting (view (get_or l.nodes k n)) ≤ l.most
