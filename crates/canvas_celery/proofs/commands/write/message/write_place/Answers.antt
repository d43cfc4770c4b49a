use Rattle.std.proofs.Common.{◌∙◌, ap, sym}
use Rattle.canvas_values.proofs.Written.Writers.{after_ok}
use Rattle.canvas_envelope.specs.MessageView.{place_seen}
use Rattle.canvas_celery.specs.ExportView.{naming}
use Rattle.canvas_celery.specs.steps.Tokens.{header_place}
use Rattle.canvas_celery.proofs.Exported.Tokens.{header_of}
use Rattle.canvas_celery.proofs.commands.write.message.write_place.Goals as goal

pub returns-in_ok-write_group_member-in-Some : goal.returns-in_ok-write_group_member-in-Some
returns-in_ok-write_group_member-in-Some c =
    let n = naming c.args.names.now in
    after_ok c.write_index.result c.args.out.now c.write_group_member.new.out c.write_index.new.out _ _ _ c.in_ok-write_group_member-in-Some.ensures
    c.write_index.ensures
    (header_of n c.args.task c.in-Some.place ∙ ap (λ p. header_place n c.args.task (place_seen p)) (sym c.in-Some.is))

pub returns-in_ok-write_null-in-None : goal.returns-in_ok-write_null-in-None
returns-in_ok-write_null-in-None c =
    after_ok c.write_null-in-None.result c.args.out.now c.write_null.new.out c.write_null-in-None.new.out _ _ _ c.in_ok-write_null-in-None.ensures
    c.write_null-in-None.ensures
    (ap (λ p. header_place (naming c.args.names.now) c.args.task (place_seen p)) (sym c.in-None.is))
