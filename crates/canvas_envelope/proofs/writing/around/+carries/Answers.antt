use Rattle.std.proofs.Common.{◌∙◌}
use Rattle.canvas_envelope.specs.steps.Around.{carries}
use Rattle.canvas_envelope.proofs.Written.AroundLines.{task_carries, end_carries_it, last_carries_it, nothing_there}
use Rattle.canvas_envelope.proofs.writing.around.+carries.Goals as goal

pub carries-returns-in-Some : goal.carries-returns-in-Some
carries-returns-in-Some t c =
    c.end_carries.ensures ∙ end_carries_it c.args.line.now c.in-Some.end c.deref.result.now c.in-Some.is c.deref.ensures

pub carries-returns-in-Some-split_last : goal.carries-returns-in-Some-split_last
carries-returns-in-Some-split_last t c =
    c.is_carrying.ensures ∙ task_carries c.in-Some-split_last.last.now
    ∙ last_carries_it c.args.line.now c.deref-in-None.result.now c.in-Some-split_last._others.now c.in-Some-split_last.last.now c.in-None.is
    (c.deref-in-None.ensures.value ∙ c.get.ensures) c.in-Some-split_last.ensures.cases.0

pub carries-returns-in-None-split_last : goal.carries-returns-in-None-split_last
carries-returns-in-None-split_last t c =
    nothing_there c.args.line.now carries c.deref-in-None.result.now c.in-None.is (c.deref-in-None.ensures.value ∙ c.get.ensures)
    c.in-None-split_last.ensures.cases
