use Rattle.std.proofs.Common.{[], ◌∷◌, ◌∙◌, sym}
use Rattle.json.specs.Token.{null, begin_array}
use Rattle.canvas_values.proofs.Written.Writers.{after_ok}
use Rattle.canvas_celery.specs.ExportView.{naming}
use Rattle.canvas_celery.proofs.Exported.Tokens.{appends_as}
use Rattle.canvas_celery.proofs.Exported.Lines.{appended}
use Rattle.canvas_celery.proofs.Exported.Elements.{no_tasks, some_tasks}
use Rattle.canvas_celery.proofs.commands.write.body.write_callbacks.Goals as goal

pub returns-then-is_empty : goal.returns-then-is_empty
returns-then-is_empty c =
    appends_as c.null.result c.args.out.now c.null.new.self (null ∷ []) _
    (no_tasks (naming c.args.names.now) c.args.tasks.now (sym c.is_empty.ensures ∙ c.if-is_empty.true))
    (appended c.null.result c.args.out.now c.null.new.self null c.null.ensures)

pub returns : goal.returns
returns c =
    let begun = c.in_ok-begin_array.ensures in
    after_ok c.write_tasks.result c.args.out.now c.begin_array.new.self c.write_tasks.new.out (begin_array ∷ []) _ _ (begun.ok, begun.room.0)
    c.write_tasks.ensures (some_tasks (naming c.args.names.now) c.args.tasks.now (sym c.is_empty.ensures ∙ c.if-is_empty.false))
