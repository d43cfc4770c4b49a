use Rattle.std.proofs.Common.{◌∙◌}
use Rattle.canvas_values.proofs.Written.Writers.{whole_text}
use Rattle.canvas_celery.specs.Envelope.{body_wire}
use Rattle.canvas_celery.specs.ExportView.{naming}
use Rattle.canvas_celery.proofs.Exported.Tokens.{whole_tokens, whole_utf8}
use Rattle.canvas_celery.proofs.commands.write.body.body_of.Goals as goal

pub returns-clause-text : goal.returns-clause-text
returns-clause-text c =
    whole_text (body_wire (naming c.args.names.now) c.args.message.now) c.new-out.result c.write_body.new.out c.into_inner.result.items
    (c.new-out.ensures.before ∙ c.new.ensures.items) c.new-out.ensures.tokens c.in_ok-write_body.ensures c.into_inner.ensures.items

pub returns-clause-tokens : goal.returns-clause-tokens
returns-clause-tokens c =
    whole_tokens (body_wire (naming c.args.names.now) c.args.message.now) c.new-out.result c.write_body.new.out c.into_inner.result.items
    (c.new-out.ensures.before ∙ c.new.ensures.items) c.new-out.ensures.tokens c.in_ok-write_body.ensures c.into_inner.ensures.items
    c.into_inner.ensures.reads_back

pub returns-clause-utf8 : goal.returns-clause-utf8
returns-clause-utf8 c =
    whole_utf8 (body_wire (naming c.args.names.now) c.args.message.now) c.new-out.result c.write_body.new.out c.into_inner.result.items
    (c.new-out.ensures.before ∙ c.new.ensures.items) c.in_ok-write_body.ensures c.into_inner.ensures.items c.into_inner.ensures.utf8
