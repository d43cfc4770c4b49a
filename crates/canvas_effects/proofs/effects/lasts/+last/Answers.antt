use Rattle.std.proofs.Common.{◌∙◌}
use Rattle.canvas_effects.proofs.Walked.{last_some, last_there}
use Rattle.canvas_effects.proofs.effects.lasts.+last.Goals as goal

pub last_task-returns-in-Some : goal.last_task-returns-in-Some
last_task-returns-in-Some t c = c.last_of_end.ensures ∙ last_some c.args.line.now c.in-Some.end c.in-Some.is c.deref.result.now c.deref.ensures

pub last_task-returns-in_ok-last-in-None : goal.last_task-returns-in_ok-last-in-None
last_task-returns-in_ok-last-in-None t c =
    last_there c.args.line.now c.in-None.is c.deref-in-None.result.now c.in_ok-last-in-None._others.now c.in_ok-last-in-None.last.now
    (c.deref-in-None.ensures.value ∙ c.get.ensures) c.in_ok-last-in-None.ensures.cases.0
