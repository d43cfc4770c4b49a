use Rattle.std.proofs.Common.{[], ◌∷◌, ◌∙◌, codes, ap}
use Rattle.json.specs.Token.{begin_object, end_object, key}
use Rattle.serde_json.specs.Data.{string}
use Rattle.canvas_values.specs.steps.Tokens.{data_tokens}
use Rattle.canvas_values.proofs.Written.Writers.{after_ok, then_tokens}
use Rattle.canvas_envelope.specs.Content.{number_of}
use Rattle.canvas_celery.specs.Envelope.{headers_wire, properties_wire}
use Rattle.canvas_celery.specs.ExportView.{naming}
use Rattle.canvas_celery.proofs.Exported.Lines.{appended}
use Rattle.canvas_celery.proofs.Exported.Tokens.{envelope_of, envelope_written}
use Rattle.canvas_celery.proofs.commands.envelope.write_envelope.Goals as goal

pub returns-clause-tokens : goal.returns-clause-tokens
returns-clause-tokens c =
    let out = c.args.out.now in
    let n = naming c.args.names.now in
    let begun = c.in_ok-begin_object.ensures in
    let headers_key = c.in_ok-key.ensures in
    let properties_key = c.in_ok-key-2.ensures in
    let body = then_tokens out c.begin_object.new.self c.write_text.new.out (begin_object ∷ []) _ (begun.ok, begun.room.0) c.in_ok-write_text.ensures in
    let encoding = then_tokens out c.write_text.new.out c.write_text-2.new.out _ _ body c.in_ok-write_text-2.ensures in
    let kind = then_tokens out c.write_text-2.new.out c.write_text-3.new.out _ _ encoding c.in_ok-write_text-3.ensures in
    let named = then_tokens out c.write_text-3.new.out c.key.new.self _ (key (codes "headers") ∷ []) kind (headers_key.ok, headers_key.room.0) in
    let headers = then_tokens out c.key.new.self c.write_headers.new.out _ _ named c.in_ok-write_headers.ensures in
    let further = then_tokens out c.write_headers.new.out c.key-2.new.self _ (key (codes "properties") ∷ []) headers
    (properties_key.ok, properties_key.room.0) in
    let properties = then_tokens out c.key-2.new.self c.write_properties.new.out _ _ further c.in_ok-write_properties.ensures in
    after_ok c.end_object.result out c.write_properties.new.out c.end_object.new.self _ (end_object ∷ []) _ properties
    (appended c.end_object.result c.write_properties.new.out c.end_object.new.self end_object c.end_object.ensures)
    (envelope_written c.args.body.now (headers_wire n c.args.message.now) (properties_wire n c.args.queue.now c.message.inside.task)
    ∙ ap (λ m. data_tokens (envelope_of (string c.args.body.now) (headers_wire n c.args.message.now)
    (properties_wire n c.args.queue.now (number_of m.own)))) c.message.view_is)
