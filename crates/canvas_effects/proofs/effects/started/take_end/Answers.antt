use Rattle.canvas_effects.proofs.Begun.{end_alone, none_alone}
use Rattle.canvas_effects.proofs.effects.started.take_end.Goals as goal

pub returns-in_err-tail : goal.returns-in_err-tail
returns-in_err-tail c = rw c.from_residual.ensures (none_alone c.args.line c.in_err-tail.was c.requires)

pub returns : goal.returns
returns c = end_alone c.args.line c.in_ok-tail.field-0 c.into_inner.result c.in_ok-tail.was c.into_inner.ensures c.requires
