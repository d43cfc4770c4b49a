use Rattle.std.proofs.Common.{◌≡◌, ◌++◌, map, drop}
use Rattle.canvas_rewrite.specs.FrozenView.{line_in}
use Rattle.canvas_report.specs.steps.EdgeLists.{lines_lasts}
use Rattle.canvas_report.proofs.graph.edges.+lasts.Given as goal

abbrev pub invariant-push_all_lasts-loop-line : goal.invariant-push_all_lasts-loop-line
invariant-push_all_lasts-loop-line l =
    l.nodes.items ++ lines_lasts (map line_in (drop l.line-index l.lines)) ≡ l.fn.nodes.items ++ lines_lasts (map line_in l.lines)
