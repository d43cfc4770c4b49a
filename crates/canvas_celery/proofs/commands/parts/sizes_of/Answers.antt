use Rattle.canvas_effects.proofs.PlanStands.{plan_stands}
use Rattle.canvas_celery.proofs.commands.parts.sizes_of.Goals as goal

pub returns-clause-whole : goal.returns-clause-whole
returns-clause-whole c = plan_stands _ c.args.plan.now c.line.ensures.planned c.line.ensures.in_order
