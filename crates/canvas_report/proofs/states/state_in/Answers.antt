use Rattle.std.proofs.Common.{◌∙◌, refl}
use Rattle.canvas_semantics.proofs.RowLookups.{of_task}
use Rattle.canvas_report.proofs.states.state_in.Goals as goal

pub returns : goal.returns
returns c = c.flatten.ensures ∙ of_task _ _ _ _ c.row_at.result c.get.ensures.value c.get.ensures.least c.row_at.ensures refl
