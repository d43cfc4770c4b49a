use Rattle.std.proofs.Common.{rules, ◌≡◌, ◌∙◌, ◌<◌, ◌^◌, ◌++◌, List, length, map, Some, sym, ap, subst, arith}
use Rattle.canvas_task.specs.Text.{Text}
use Rattle.canvas_semantics.specs.PlacedLine.{bare}
use Rattle.canvas_effects.specs.Effects.{first_messages}
use Rattle.canvas_envelope.specs.Content.{Content}
use Rattle.canvas_celery.specs.Envelope.{message_text}
use Rattle.canvas_celery.specs.ExportView.{setting, naming_of}
use Rattle.canvas_celery.specs.MessageReading.{IsSound, read_message}
use Rattle.canvas_celery.specs.Sizeless.{sizeless}
use Rattle.canvas_celery.specs.Resp.{resp}
use Rattle.canvas_celery.specs.Start.{start}
use Rattle.canvas_celery.specs.Starting.{starting}
use Rattle.canvas_celery.specs.steps.Around.{parts_bytes}
use Rattle.canvas_celery.proofs.Exported.Plans.{start_back}
use Rattle.canvas_celery.proofs.Exported.Words.{length-map}
use Rattle.canvas_celery.proofs.commands.exporting.export.Goals as goal

pub returns-in-Ok-clause-bytes : goal.returns-in-Ok-clause-bytes
returns-in-Ok-clause-bytes c =
    let run = c.args.run.now.digits in
    let n = naming_of run c.args.plan.now in
    let target = c.args.target.now in
    let parts = c.in_ok-parts.parts in
    let texts : List Content → List Text = map (message_text n target.queue.now) in
    let its = c.in_ok-parts.ensures in
    c.in-Ok.ensures.bytes
    ∙ (ap (λ xs. xs ++ parts_bytes n target.queue.now parts) c.new-bytes.ensures.items
    ∙ (its.around (texts parts.messages.items) (length-map (message_text n target.queue.now) parts.messages.items)
    ∙ ap (λ ms. resp (start run (setting target) (starting (bare c.args.plan.now)) (texts ms))) its.messages))

pub returns-in-Ok-clause-reads_back : goal.returns-in-Ok-clause-reads_back
returns-in-Ok-clause-reads_back c =
    let run = c.args.run.now.digits in
    let plan = c.args.plan.now in
    let n = naming_of run plan in
    let bytes = c.write.new.out in
    let P : List Content → Type 0 = λ ms. IsSound n
    → map (λ m. read_message (message_text n c.args.target.now.queue.now m)) ms ≡ map (λ m. Some (sizeless m)) ms in
    let same : length c.digits-digits.result ≡ 22 = search rules in
    let digits : length run ≡ 22 = ap (λ xs. length xs) (sym c.digits-digits.ensures) ∙ same in
    let long : length bytes.items < 2 ^ 64 = omega (arith, bytes.ok, bytes.small) in
    start_back run plan (setting c.args.target.now) digits c.in_ok-parts.ensures.planned c.in_ok-parts.ensures.whole (first_messages plan)
    (subst P c.in_ok-parts.ensures.messages c.in-Ok.ensures.reads_back) bytes.items (returns-in-Ok-clause-bytes c) long
