use Rattle.std.proofs.Common.{◌∙◌, ap, sym}
use Rattle.canvas_values.proofs.Written.Writers.{after_ok}
use Rattle.canvas_envelope.specs.MessageView.{place_seen}
use Rattle.canvas_celery.specs.ExportView.{naming}
use Rattle.canvas_celery.specs.steps.Elements.{group_options}
use Rattle.canvas_celery.proofs.Exported.Tokens.{options_of_place}
use Rattle.canvas_celery.proofs.Exported.Lines.{nothing}
use Rattle.canvas_celery.proofs.commands.write.pieces.write_group_options.Goals as goal

pub returns-in_ok-write_group_member-in-Some : goal.returns-in_ok-write_group_member-in-Some
returns-in_ok-write_group_member-in-Some c =
    let n = naming c.args.names.now in
    after_ok c.write_index.result c.args.out.now c.write_group_member.new.out c.write_index.new.out _ _ _ c.in_ok-write_group_member-in-Some.ensures
    c.write_index.ensures
    (options_of_place n c.args.task c.in-Some.place ∙ ap (λ p. group_options n c.args.task (place_seen p)) (sym c.in-Some.is))

pub returns-in-None : goal.returns-in-None
returns-in-None c = nothing c.args.out.now _ (ap (λ p. group_options (naming c.args.names.now) c.args.task (place_seen p)) c.in-None.is)
