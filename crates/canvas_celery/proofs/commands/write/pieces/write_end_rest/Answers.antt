use Rattle.std.proofs.Common.{ap, sym}
use Rattle.canvas_celery.specs.ExportView.{naming}
use Rattle.canvas_celery.specs.steps.Elements.{first_rest}
use Rattle.canvas_celery.proofs.Exported.Tokens.{appends_as}
use Rattle.canvas_celery.proofs.Exported.Elements.{a_group, a_header}
use Rattle.canvas_celery.proofs.commands.write.pieces.write_end_rest.Goals as goal

pub returns-in-Some : goal.returns-in-Some
returns-in-Some c =
    appends_as c.write_group_rest.result c.args.out.now c.write_group_rest.new.out _ _
    (sym (ap first_rest (a_header (naming c.args.names.now) c.args.end.now c.in-Some.field-0 c.in-Some.is))) c.write_group_rest.ensures

pub returns-in-None : goal.returns-in-None
returns-in-None c =
    appends_as c.write_group_rest-in-None.result c.args.out.now c.write_group_rest-in-None.new.out _ _
    (sym (ap first_rest (a_group (naming c.args.names.now) c.args.end.now c.in-None.is))) c.write_group_rest-in-None.ensures
