use Rattle.std.proofs.Common.{◌∙◌, ap}
use Rattle.std.specs.Prelude.{option_map}
use Rattle.canvas_semantics.specs.PlacedLine.{strip}
use Rattle.canvas_semantics.proofs.Numbered.{strip_bare}
use Rattle.canvas_report.specs.Nodes.{looks}
use Rattle.canvas_report.proofs.NodeParts.{picture_is}
use Rattle.canvas_report.proofs.NodeLaw.{plan_nodes}
use Rattle.canvas_report.proofs.graph.graph_text.Goals as goal

pub returns-clause-picture : goal.returns-clause-picture
returns-clause-picture c =
    picture_is (looks c.args.fates.now (option_map (λ rows. rows.now) c.args.rows)) c.args.plan.now _ _ _ _ _ _ _ _ c.new-text.ensures.bytes c.in_ok-put.ensures c.in_ok-put-2.ensures c.in_ok-push_line.ensures
    (ap strip c.line.ensures.value ∙ strip_bare c.args.plan.now) c.in_ok-push_line_edges.ensures (ap strip c.line-2.ensures.value ∙ strip_bare c.args.plan.now)
    c.in_ok-put-3.ensures

pub returns-clause-nodes : goal.returns-clause-nodes
returns-clause-nodes c = plan_nodes c.args.plan.now c.line.ensures.planned
