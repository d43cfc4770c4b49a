use Rattle.canvas_effects.proofs.FirstInOrder.{alone_stands, alone_begins}
use Rattle.canvas_effects.proofs.PlanStands.{plan_stands}
use Rattle.canvas_effects.proofs.effects.first.whole_line.Goals as goal

pub returns-clause-stand : goal.returns-clause-stand
returns-clause-stand c =
    let plan = c.line.ensures in
    alone_stands c.args.plan.now c.line.result.now c.from_ref.result.now plan.value
    (plan_stands _ c.args.plan.now plan.planned plan.in_order) c.from_ref.ensures.value

pub returns-clause-value : goal.returns-clause-value
returns-clause-value c =
    let plan = c.line.ensures in
    alone_begins _ c.args.plan.now _ _ c.line.result.now c.from_ref.result.now plan.value plan.in_order c.from_ref.ensures.value
