use Rattle.std.proofs.Common.{rules}
use Rattle.canvas_values.proofs.ComposedLemmas.{call_ordered}
use Rattle.canvas_values.proofs.composed.check_call.Goals as goal

pub returns-clause-ordered : goal.returns-clause-ordered
returns-clause-ordered c = call_ordered c.args.sig.now (search rules)
