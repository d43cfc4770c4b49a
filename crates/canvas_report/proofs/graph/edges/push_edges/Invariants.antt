use Rattle.std.proofs.Common.{◌≡◌, ◌++◌, map, drop}
use Rattle.canvas_report.specs.Picture.{edge}
use Rattle.canvas_report.specs.declared.graph.edges.Leads.TheVariants.{Next}
use Rattle.canvas_report.proofs.graph.edges.push_edges.Given as goal

abbrev pub invariant-loop-node : goal.invariant-loop-node
invariant-loop-node l =
    l.edges.items ++ map (λ node. edge Next l.from node) (drop l.node-index l.to) ≡ l.fn.edges.items ++ map (λ node. edge Next l.from node) l.to
