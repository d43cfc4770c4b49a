use Rattle.std.proofs.Common.{◌∙◌}
use Rattle.canvas_envelope.proofs.FitLemmas.{stop_some, stop_none}
use Rattle.canvas_celery.proofs.commands.write.body.is_stop.Goals as goal

pub returns-in-Some : goal.returns-in-Some
returns-in-Some c = stop_some c.args.line.now c.in-Some.field-0 c.in-Some.is

pub returns-in-None : goal.returns-in-None
returns-in-None c = c.is_empty.ensures ∙ stop_none c.args.line.now c.in-None.is c.as_slice.result.now (c.as_slice.ensures.value ∙ c.get.ensures)
