use Rattle.std.proofs.Common.{◌≡◌, ◌++◌, drop}
use Rattle.canvas_report.specs.Picture.{joined}
use Rattle.canvas_report.proofs.graph.edges.push_joined.Given as goal

abbrev pub invariant-loop-node : goal.invariant-loop-node
invariant-loop-node l =
    l.edges.items ++ joined (drop l.node-index l.from) l.to ≡ l.fn.edges.items ++ joined l.from l.to
