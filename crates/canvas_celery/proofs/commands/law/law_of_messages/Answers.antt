use Rattle.canvas_celery.proofs.Exported.Plans.{plan_message}
use Rattle.canvas_celery.proofs.commands.law.law_of_messages.Goals as goal

pub returns : goal.returns
returns c = plan_message
