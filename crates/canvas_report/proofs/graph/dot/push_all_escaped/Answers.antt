use Rattle.canvas_report.proofs.NodeParts.{whole_none, whole_then}
use Rattle.canvas_report.proofs.graph.dot.push_all_escaped.Goals as goal

pub loop-c-init : goal.loop-c-init
loop-c-init c = whole_none _

pub loop-c-preserved : goal.loop-c-preserved
loop-c-preserved c = whole_then _ _ _ c.loop-c.invariant c.in_ok-push_escaped.ensures

pub returns : goal.returns
returns c = c.loop-c.invariant
