use Rattle.std.proofs.Common.{rules}
use Rattle.canvas_task.specs.Entries.{named}
use Rattle.canvas_envelope.proofs.FitLemmas.{ascends_so}
use Rattle.canvas_envelope.proofs.fits.forms.is_call.Goals as goal

pub returns-then-args_fit : goal.returns-then-args_fit
returns-then-args_fit c = rw (ascends_so (named c.args.kwargs.now.entries) c.kwargs_fit.ensures.ordered) (search rules)
