use Rattle.std.proofs.Common.{◌≡◌, List, map, Some, subst}
use Rattle.canvas_envelope.specs.Content.{Content}
use Rattle.canvas_celery.specs.ExportView.{naming}
use Rattle.canvas_celery.specs.Envelope.{message_text}
use Rattle.canvas_celery.specs.MessageReading.{IsSound, read_message}
use Rattle.canvas_celery.specs.Sizeless.{sizeless}
use Rattle.canvas_celery.proofs.Exported.Pieces.{in_any}
use Rattle.canvas_celery.proofs.commands.parts.Parts.write.Goals as goal

pub returns-clause-reads_back : goal.returns-clause-reads_back
returns-clause-reads_back g c =
    let n = naming c.args.names.now in
    let P : List Content → Type 0 = λ ms. IsSound n → map (λ m. read_message (message_text n c.args.queue.now m)) ms ≡ map (λ m. Some (sizeless m)) ms in
    in_any c.write_all-2.result (P c.args.self.now.messages.items) (subst P c.deref-2.ensures.value c.in_ok-write_messages.ensures.reads_back)
