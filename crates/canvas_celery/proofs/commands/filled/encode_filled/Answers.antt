use Rattle.std.proofs.Common.{◌<◌, length, Some, map, arith, sym}
use Rattle.json.specs.Value.{value_view}
use Rattle.canvas_celery.specs.ExportView.{naming}
use Rattle.canvas_celery.specs.FilledStart.{filled_message}
use Rattle.canvas_celery.proofs.Exported.Texts.{next_text, last_text}
use Rattle.canvas_celery.proofs.commands.filled.encode_filled.Goals as goal

pub loop-message-preserved : goal.loop-message-preserved
loop-message-preserved c =
    let inside : c.loop-message.message-index < length c.args.messages.now = omega (arith, c.loop-message-test.true) in
    next_text (λ t. Some t.items) (filled_message (map value_view c.args.values.now) (naming c.args.names.now) c.args.queue.now) c.loop-message.texts.items
    c.push.new.self.items c.args.messages.now c.loop-message.message-index c.in_ok-filled_envelope.field-0 c.message-item.result _ inside
    (sym c.message-item.is) c.in_ok-push.ensures.items (sym c.in_ok-filled_envelope.ensures) c.loop-message.invariant

pub returns : goal.returns
returns c =
    last_text (λ t. Some t.items) (filled_message (map value_view c.args.values.now) (naming c.args.names.now) c.args.queue.now) c.loop-message.texts.items
    c.args.messages.now c.loop-message.message-index (omega (arith, c.loop-message-test.false)) c.loop-message.invariant
