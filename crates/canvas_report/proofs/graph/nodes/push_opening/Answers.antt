use Rattle.std.proofs.Common.{◌∙◌, sym, string_bytes}
use Rattle.canvas_report.specs.Nodes.{frame_line, label_line}
use Rattle.canvas_report.proofs.Pieces.{last}
use Rattle.canvas_report.proofs.NodeParts.{opening_ok, alike_label}
use Rattle.canvas_report.proofs.graph.nodes.push_opening.Goals as goal

pub returns : goal.returns
returns c = λ at.
    opening_ok _ at c.args.is_chord c.args.group c.get.result c.kind_of.result.now _ _ c.get.ensures.value c.kind_of.ensures
    (last _ (string_bytes c.args.text.now) _ _ (frame_line c.get.result) (label_line c.kind_of.result.now c.get.result) c.in_ok-push_frame_line.ensures
    (alike_label _ _ c.kind_of.result.now c.get-2.result c.get.result _ (c.get-2.ensures.value ∙ sym c.get.ensures.value) c.push_label_line.ensures))
