use Rattle.std.proofs.Common.{codes, ap, sym}
use Rattle.canvas_envelope.specs.steps.Tokens.{named_tokens}
use Rattle.canvas_celery.specs.Envelope.{parent_id}
use Rattle.canvas_celery.specs.ExportView.{naming}
use Rattle.canvas_celery.proofs.Exported.Tokens.{appends_as}
use Rattle.canvas_celery.proofs.commands.write.message.write_parent.Goals as goal

pub returns-in-Some : goal.returns-in-Some
returns-in-Some c =
    appends_as c.write_task_member.result c.args.out.now c.write_task_member.new.out _ _
    (ap (λ p. named_tokens (codes "parent_id") (parent_id (naming c.args.names.now) p)) (sym c.in-Some.is)) c.write_task_member.ensures

pub returns-in-None : goal.returns-in-None
returns-in-None c =
    appends_as c.write_null.result c.args.out.now c.write_null.new.out _ _
    (ap (λ p. named_tokens (codes "parent_id") (parent_id (naming c.args.names.now) p)) (sym c.in-None.is)) c.write_null.ensures
