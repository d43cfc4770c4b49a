use Rattle.std.proofs.Common.{◌∙◌, ap₂}
use Rattle.std.specs.Prelude.{option_map}
use Rattle.canvas_report.specs.Nodes.{look, looks}
use Rattle.canvas_report.proofs.NodeParts.{number_is, own_node}
use Rattle.canvas_report.proofs.graph.nodes.push_node.Goals as goal

pub returns : goal.returns
returns c =
    let at = looks c.args.seen.now.fates.now (option_map (λ rows. rows.now) c.args.seen.now.rows) in
    own_node _ at _ _ _ _ _ (number_is c.args.task.now)
    (c.look_of-look.ensures ∙ ap₂ look c.fate_in-fate.ensures c.status_in.ensures) c.push_labelled.ensures
