use Rattle.canvas_report.proofs.NodeParts.{code_ok}
use Rattle.canvas_report.proofs.graph.dot.push_escaped.Goals as goal

pub returns-in_default : goal.returns-in_default
returns-in_default c = code_ok _ _ _ _ c.push_code.ensures
