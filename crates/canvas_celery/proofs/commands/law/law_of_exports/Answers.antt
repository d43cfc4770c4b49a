use Rattle.canvas_celery.proofs.Exported.ExportBack.{export_back}
use Rattle.canvas_celery.proofs.commands.law.law_of_exports.Goals as goal

pub returns : goal.returns
returns c = export_back
