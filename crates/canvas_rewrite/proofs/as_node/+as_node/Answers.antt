use Rattle.std.proofs.Common.{◌∙◌}
use Rattle.canvas_rewrite.proofs.NodeLines.{node_none, node_some, end_group, end_chord}
use Rattle.canvas_rewrite.proofs.as_node.+as_node.Goals as goal

pub line_node-returns-in-None : goal.line_node-returns-in-None
line_node-returns-in-None t c =
    c.whole-in-None.ensures ∙ node_none c.args.line.now _ (c.deref.ensures.value ∙ c.get.ensures) c.in_ok-nodes.nodes.items c.in_ok-nodes.ensures c.in-None.is

pub line_node-returns-in_ok-push-in-Some : goal.line_node-returns-in_ok-push-in-Some
line_node-returns-in_ok-push-in-Some t c =
    c.whole.ensures ∙ node_some c.args.line.now _
    (c.deref.ensures.value ∙ c.get.ensures) c.in_ok-nodes.nodes.items c.in_ok-nodes.ensures c.in-Some.end c.in-Some.is
    c.in_ok-end_node-in-Some.field-0 c.deref-in-Some.result.now c.deref-in-Some.ensures c.in_ok-end_node-in-Some.ensures _ c.in_ok-push-in-Some.ensures.items

pub end_node-returns-in-None : goal.end_node-returns-in-None
end_node-returns-in-None t c =
    end_group c.args.end.now _
    (c.deref.ensures.value ∙ c.get.ensures) c.in_ok-line_nodes.field-0.items c.of-members.result c.of-members.ensures c.in_ok-line_nodes.ensures c.in-None.is

pub end_node-returns-in_ok-body-in-Some : goal.end_node-returns-in_ok-body-in-Some
end_node-returns-in_ok-body-in-Some t c =
    end_chord c.args.end.now _
    (c.deref.ensures.value ∙ c.get.ensures) c.in_ok-line_nodes.field-0.items c.of-members.result c.of-members.ensures c.in_ok-line_nodes.ensures
    c.in-Some.body c.in-Some.is c.in_ok-line_node-in-Some.field-0 c.in_ok-body-in-Some.body c.in_ok-body-in-Some.ensures.ok c.in_ok-line_node-in-Some.ensures
