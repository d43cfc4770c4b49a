use Rattle.std.proofs.Common.{rules, ◌≡◌, ◌∙◌, ap, map}
use Rattle.json.specs.Lex.{tokens}
use Rattle.json.specs.Value.{value_view}
use Rattle.canvas_celery.specs.Envelope.{body_wire}
use Rattle.canvas_celery.specs.ExportView.{naming}
use Rattle.canvas_celery.proofs.Exported.FilledMessages.{good_body, body_made}
use Rattle.canvas_celery.proofs.commands.filled.filled_body.Goals as goal

pub filled_text-requires-clause-good : goal.filled_text-requires-clause-good
filled_text-requires-clause-good c =
    let same : c.unwrap.result.now ≡ c.in_ok-body.body.items = search rules in
    good_body (body_wire (naming c.args.names.now) c.args.message.now) c.unwrap.result.now (ap tokens same ∙ c.in_ok-body.ensures.tokens)

pub returns : goal.returns
returns c =
    let same : c.unwrap.result.now ≡ c.in_ok-body.body.items = search rules in
    body_made (λ t. t.items) c.filled_text.result (map value_view c.args.values.now) (body_wire (naming c.args.names.now) c.args.message.now)
    c.unwrap.result.now (ap tokens same ∙ c.in_ok-body.ensures.tokens) c.filled_text.ensures
