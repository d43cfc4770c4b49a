use Rattle.std.proofs.Common.{◌∙◌, ap, not}
use Rattle.canvas_envelope.proofs.FitLemmas.{longer_some, longer_none}
use Rattle.canvas_envelope.proofs.fits.reach.is_longer.Goals as goal

pub returns-in-Some : goal.returns-in-Some
returns-in-Some c = ap not c.is_empty.ensures ∙ longer_some c.args.line.now c.in-Some.field-0 c.in-Some.is c.as_slice.result.now
    (c.as_slice.ensures.value ∙ c.get.ensures)

pub returns-in-None : goal.returns-in-None
returns-in-None c = longer_none c.args.line.now c.in-None.is c.as_slice-in-None.result.now (c.as_slice-in-None.ensures.value ∙ c.get-in-None.ensures)
