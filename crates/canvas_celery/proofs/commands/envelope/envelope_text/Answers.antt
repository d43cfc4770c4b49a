use Rattle.std.proofs.Common.{◌∙◌}
use Rattle.canvas_celery.specs.ExportView.{naming}
use Rattle.canvas_celery.proofs.Exported.EnvelopesBack.{its_text, its_back}
use Rattle.canvas_celery.proofs.commands.envelope.envelope_text.Goals as goal

pub returns-clause-text : goal.returns-clause-text
returns-clause-text c =
    its_text (λ t. t.items) c.envelope_around.result (naming c.args.names.now) c.args.queue.now c.args.message.now c.deref.result.now
    (c.deref.ensures.value ∙ c.in_ok-body.ensures.text) c.envelope_around.ensures.text

pub returns-clause-reads_back : goal.returns-clause-reads_back
returns-clause-reads_back c =
    its_back (λ t. t.items) c.envelope_around.result (naming c.args.names.now) c.args.queue.now c.args.message.now c.deref.result.now
    (c.deref.ensures.value ∙ c.in_ok-body.ensures.text) c.envelope_around.ensures.text c.envelope_around.ensures.kept c.envelope_around.ensures.checked
