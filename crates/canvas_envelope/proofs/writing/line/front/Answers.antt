use Rattle.std.proofs.Common.{◌∙◌}
use Rattle.canvas_envelope.proofs.Written.AroundLines.{front_all, front_others, front_none}
use Rattle.canvas_envelope.proofs.writing.line.front.Goals as goal

pub returns-in-Some : goal.returns-in-Some
returns-in-Some c = front_all c.args.line.now c.as_slice-tasks.result.now (c.as_slice-tasks.ensures.value ∙ c.get.ensures) c.in-Some._end c.in-Some.is

pub returns-in-Some-split_last : goal.returns-in-Some-split_last
returns-in-Some-split_last c =
    front_others c.args.line.now c.as_slice-tasks.result.now (c.as_slice-tasks.ensures.value ∙ c.get.ensures) c.in-Some-split_last.others.now
    c.in-Some-split_last._last.now c.in-None.is c.in-Some-split_last.ensures.cases.0

pub returns-in-None-split_last : goal.returns-in-None-split_last
returns-in-None-split_last c =
    front_none c.args.line.now c.as_slice-tasks.result.now (c.as_slice-tasks.ensures.value ∙ c.get.ensures) c.in-None.is c.in-None-split_last.ensures.cases
