use Rattle.std.proofs.Common.{◌≡◌, ◌∙◌, ◌<◌, ◌++◌, [], length, drop, map, Some, arith, refl, sym, ap, append-nil, subst}
use Rattle.std.proofs.lemmas.List.{drop_all}
use Rattle.std.specs.Io.KnownBytes.{Appends}
use Rattle.canvas_celery.specs.Resp.{word_bytes, words_bytes}
use Rattle.canvas_celery.specs.Envelope.{message_text}
use Rattle.canvas_celery.specs.MessageReading.{read_message}
use Rattle.canvas_celery.specs.Sizeless.{sizeless}
use Rattle.canvas_celery.specs.ExportView.{naming}
use Rattle.canvas_celery.proofs.Exported.Texts.{next_read, all_read}
use Rattle.canvas_celery.proofs.Exported.Words.{next_word}
use Rattle.canvas_celery.proofs.Exported.Written.{nothing_yet, more}
use Rattle.canvas_celery.proofs.commands.parts.write_messages.Goals as goal

pub loop-message-init : goal.loop-message-init
loop-message-init g c = (([], nothing_yet (g.W.Write.contents c.args.out.now), refl), λ sound. refl)

pub loop-message-preserved : goal.loop-message-preserved
loop-message-preserved g c =
    let text = message_text (naming c.args.names.now) c.args.queue.now in
    let ms = c.args.messages.now in
    let i = c.loop-message.message-index in
    let m = c.message-item.result in
    let inside : i < length ms = omega (arith, c.loop-message-test.true) in
    let (bytes, written, rest) = c.loop-message.invariant.0 in (
      (
        bytes ++ word_bytes (text m),
        more (g.W.Write.contents c.args.out.now) (g.W.Write.contents c.loop-message.out) (g.W.Write.contents c.write_message.new.out) bytes _ written
            c.in_ok-write_message.ensures.text,
        next_word text ms i m _ bytes (bytes ++ word_bytes (text m)) [] inside (sym c.message-item.is) refl rest,
      ),
      λ sound. next_read (λ x. read_message (text x)) (λ x. Some (sizeless x)) ms i m _ inside (sym c.message-item.is)
          (c.in_ok-write_message.ensures.reads_back sound) (c.loop-message.invariant.1 sound),
    )

pub returns-clause-text : goal.returns-clause-text
returns-clause-text g c =
    let text = message_text (naming c.args.names.now) c.args.queue.now in
    let ms = c.args.messages.now in
    let (bytes, written, rest) = c.loop-message.invariant.0 in
    let none : drop c.loop-message.message-index ms ≡ [] = drop_all c.loop-message.message-index ms (omega (arith, c.loop-message-test.false)) in
    let all : bytes ≡ words_bytes (map text ms) = sym (append-nil bytes) ∙ ap (λ xs. bytes ++ words_bytes (map text xs)) (sym none) ∙ rest in
    subst (λ bs. Appends (g.W.Write.contents c.args.out.now) (g.W.Write.contents c.loop-message.out) bs) all written

pub returns-clause-reads_back : goal.returns-clause-reads_back
returns-clause-reads_back g c sound =
    all_read (λ x. read_message (message_text (naming c.args.names.now) c.args.queue.now x)) (λ x. Some (sizeless x)) c.args.messages.now
    c.loop-message.message-index (omega (arith, c.loop-message-test.false)) (c.loop-message.invariant.1 sound)
