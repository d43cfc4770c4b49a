use Rattle.canvas_report.proofs.NodeParts.{node_ok}
use Rattle.canvas_report.proofs.graph.nodes.push_labelled.Goals as goal

pub returns : goal.returns
returns c =
    node_ok _ _ _ _ _ _ _ _ c.get.ensures.value c.in_ok-push_beginning.ensures c.in_ok-push_quoted.ensures c.put.ensures
