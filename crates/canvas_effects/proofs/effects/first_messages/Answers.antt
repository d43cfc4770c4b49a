use Rattle.std.proofs.Common.{◌∙◌, ap}
use Rattle.canvas_effects.specs.Carrying.{is_whole}
use Rattle.canvas_effects.proofs.PlanStands.{plan_stands, first_is}
use Rattle.canvas_effects.proofs.effects.first_messages.Goals as goal

pub start_whole-requires-clause-line : goal.start_whole-requires-clause-line
start_whole-requires-clause-line c = ap is_whole (c.in_ok-line.ensures ∙ c.line.ensures.value)
    ∙ plan_stands _ c.args.plan.now c.line.ensures.planned c.line.ensures.in_order

pub returns : goal.returns
returns c = c.in_ok-sort_messages.ensures ∙ first_is c.args.plan.now _ _ _ (c.in_ok-line.ensures
    ∙ c.line.ensures.value) c.new-messages.ensures.items c.in_ok-start_whole.ensures
