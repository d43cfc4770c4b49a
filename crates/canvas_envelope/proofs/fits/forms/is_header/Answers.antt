use Rattle.std.proofs.Common.{rules}
use Rattle.canvas_envelope.proofs.FitLemmas.{counted}
use Rattle.canvas_envelope.proofs.fits.forms.is_header.Goals as goal

pub returns : goal.returns
returns c = rw (counted c.args.members.now) (search rules)
