use Rattle.std.proofs.Common.{[], ◌∷◌, reverse, ap, sym}
use Rattle.json.specs.Token.{null}
use Rattle.canvas_values.specs.steps.Tokens.{data_tokens}
use Rattle.canvas_envelope.specs.MessageView.{rest_seen}
use Rattle.canvas_envelope.specs.Wire.{list_or_null}
use Rattle.canvas_celery.specs.Signatures.{each_wire, elements}
use Rattle.canvas_celery.specs.ExportView.{naming}
use Rattle.canvas_celery.proofs.Exported.Tokens.{appends_as}
use Rattle.canvas_celery.proofs.Exported.Lines.{appended}
use Rattle.canvas_celery.proofs.commands.write.body.write_rest.Goals as goal

pub returns-in-Some : goal.returns-in-Some
returns-in-Some c =
    appends_as c.write_following.result c.args.out.now c.write_following.new.out _ _
    (ap (λ l. data_tokens (list_or_null (each_wire (reverse (elements (naming c.args.names.now) (rest_seen l)))))) (sym c.in-Some.is))
    c.write_following.ensures

pub returns-in-None : goal.returns-in-None
returns-in-None c =
    appends_as c.null.result c.args.out.now c.null.new.self (null ∷ []) _
    (ap (λ l. data_tokens (list_or_null (each_wire (reverse (elements (naming c.args.names.now) (rest_seen l)))))) (sym c.in-None.is))
    (appended c.null.result c.args.out.now c.null.new.self null c.null.ensures)
