use Rattle.std.proofs.Common.{rules}
use Rattle.canvas_codec.proofs.EnvelopeLaw.{found_says, found_refused}
use Rattle.canvas_codec.proofs.decoding.decode_within.Goals as goal

pub returns-in_err-properties-clause-err : goal.returns-in_err-properties-clause-err
returns-in_err-properties-clause-err c = found_refused c.from_residual.result _ _ _ (search rules)

pub returns-in_err-headers-clause-err : goal.returns-in_err-headers-clause-err
returns-in_err-headers-clause-err c = found_refused c.from_residual-in_err-headers.result _ _ _ (search rules)

pub returns-in_err-body-clause-err : goal.returns-in_err-body-clause-err
returns-in_err-body-clause-err c = found_refused c.from_residual-in_err-body.result _ _ _ (search rules)

pub returns-clause-ok : goal.returns-clause-ok
returns-clause-ok c = found_says c.read_message.result _ _ _ (search rules)

pub returns-clause-err : goal.returns-clause-err
returns-clause-err c = found_refused c.read_message.result _ _ _ (search rules)
