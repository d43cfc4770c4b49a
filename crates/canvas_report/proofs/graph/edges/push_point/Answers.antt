use Rattle.std.proofs.Common.{◌∙◌, ◌++◌, ap, sym, append-nil}
use Rattle.canvas_report.proofs.EdgeParts.{point_none}
use Rattle.canvas_report.proofs.graph.edges.push_point.Goals as goal

pub returns-else-has_none : goal.returns-else-has_none
returns-else-has_none c =
    sym (ap (λ ns. c.args.nodes.now.items ++ ns)
    (point_none c.args.end.now c.deref.result.now (c.deref.ensures.value ∙ c.get.ensures) (sym c.has_none.ensures ∙ c.if-has_none.false))
    ∙ append-nil c.args.nodes.now.items)
