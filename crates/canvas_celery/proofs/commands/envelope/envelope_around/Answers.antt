use Rattle.std.proofs.Common.{◌∙◌, refl, ap}
use Rattle.serde_json.specs.Data.{string}
use Rattle.serde_json.specs.Written.{compact_text}
use Rattle.canvas_values.proofs.Written.Writers.{whole_text}
use Rattle.canvas_celery.specs.Envelope.{envelope_wire}
use Rattle.canvas_celery.specs.ExportView.{naming}
use Rattle.canvas_celery.proofs.Exported.MessageBack.{kept_by}
use Rattle.canvas_celery.proofs.commands.envelope.envelope_around.Goals as goal

pub returns-clause-text : goal.returns-clause-text
returns-clause-text c =
    let n = naming c.args.names.now in
    let queue = c.args.queue.now in
    let m = c.args.message.now in
    let encoded = c.deref.ensures ∙ c.in_ok-encoded.ensures.text in
    whole_text (envelope_wire n queue (string c.deref.result.now) m) c.new-out.result c.write_envelope.new.out c.into_inner.result.items
    (c.new-out.ensures.before ∙ c.new.ensures.items) c.new-out.ensures.tokens c.in_ok-write_envelope.ensures.tokens c.into_inner.ensures.items
    ∙ ap (λ t. compact_text (envelope_wire n queue (string t) m)) encoded

pub returns-clause-kept : goal.returns-clause-kept
returns-clause-kept c = kept_by _ c.args.body.now c.args.body.now c.in_ok-encoded.ensures.text (c.in_ok-encoded.ensures.round_trip refl) refl
