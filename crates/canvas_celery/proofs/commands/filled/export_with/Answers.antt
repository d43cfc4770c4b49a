use Rattle.std.proofs.Common.{◌∙◌, length, List, Some, ap, map, sym}
use Rattle.canvas_envelope.specs.Content.{Content}
use Rattle.canvas_task.specs.Text.{Text}
use Rattle.canvas_celery.specs.ExportView.{naming_of}
use Rattle.canvas_celery.specs.FilledStart.{filled_message}
use Rattle.canvas_celery.specs.steps.Around.{around_texts}
use Rattle.canvas_celery.proofs.Exported.Texts.{at_once}
use Rattle.canvas_celery.proofs.Exported.Words.{length-map}
use Rattle.canvas_celery.proofs.commands.filled.export_with.Goals as goal

pub returns : goal.returns
returns c =
    let made = c.in_ok-texts.ensures in
    let its = c.in_ok-parts.ensures in
    let parts = c.in_ok-parts.parts in
    let texts = c.in_ok-texts.texts.items in
    let message = filled_message made.0 (naming_of c.args.run.now.digits c.args.plan.now) c.args.target.now.queue.now in
    let here = made.2 ∙ ap (map message) c.deref.ensures.value in
    let many = length-map (λ t. t.items) texts ∙ sym (length-map (λ t. Some t.items) texts)
    ∙ ap (λ xs. length xs) here ∙ length-map message parts.messages.items in
    record {
      list = made.0;
      listed = made.1;
      named = c.in_ok-check_names.ensures;
      texts = map (λ t. t.items) texts;
      filled = at_once (λ x. Some x) (λ t. t.items) texts ∙ here ∙ ap (map message) its.messages;
      starts =
          c.in_ok-with_texts.ensures
          ∙ ap (λ ts. around_texts parts.around (map (λ t. t.items) ts)) c.deref-2.ensures.value
          ∙ its.around (map (λ t. t.items) texts) many;
    }
