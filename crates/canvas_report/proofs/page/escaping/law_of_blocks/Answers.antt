use Rattle.canvas_report.proofs.Blocks.{safe}
use Rattle.canvas_report.proofs.page.escaping.law_of_blocks.Goals as goal

pub returns : goal.returns
returns c = safe
