use Rattle.std.proofs.Common.{codes, pos, ap}
use Rattle.canvas_values.specs.Writing.{number_wire}
use Rattle.canvas_envelope.specs.steps.Tokens.{named_tokens}
use Rattle.canvas_celery.proofs.Exported.Tokens.{appends_as}
use Rattle.canvas_celery.proofs.commands.write.names.write_index.Goals as goal

pub returns : goal.returns
returns c =
    appends_as c.write_number.result c.args.out.now c.write_number.new.out _ _
    (ap (λ n. named_tokens (codes "group_index") (number_wire (pos n))) c.index.ensures) c.write_number.ensures
