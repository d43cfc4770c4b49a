use Rattle.std.proofs.Common.{◌≡◌, ◌++◌, map, drop}
use Rattle.canvas_rewrite.specs.FrozenView.{line_in}
use Rattle.canvas_report.specs.steps.EdgeLists.{lines_edges}
use Rattle.canvas_report.proofs.graph.edges.+lines.Given as goal

abbrev pub invariant-push_lines-loop-line : goal.invariant-push_lines-loop-line
invariant-push_lines-loop-line l =
    l.edges.items ++ lines_edges (map line_in (drop l.line-index l.lines)) ≡ l.fn.edges.items ++ lines_edges (map line_in l.lines)
