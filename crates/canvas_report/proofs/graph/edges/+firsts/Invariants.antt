use Rattle.std.proofs.Common.{◌≡◌, ◌++◌, map, drop}
use Rattle.canvas_rewrite.specs.FrozenView.{line_in}
use Rattle.canvas_report.specs.steps.EdgeLists.{lines_firsts}
use Rattle.canvas_report.proofs.graph.edges.+firsts.Given as goal

abbrev pub invariant-push_all_firsts-loop-line : goal.invariant-push_all_firsts-loop-line
invariant-push_all_firsts-loop-line l =
    l.nodes.items ++ lines_firsts (map line_in (drop l.line-index l.lines)) ≡ l.fn.nodes.items ++ lines_firsts (map line_in l.lines)
