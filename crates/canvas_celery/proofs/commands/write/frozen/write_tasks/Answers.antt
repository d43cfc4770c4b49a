use Rattle.std.proofs.Common.{[], ◌∷◌, map}
use Rattle.json.specs.Token.{end_array}
use Rattle.canvas_values.proofs.Written.Writers.{after_ok}
use Rattle.canvas_rewrite.specs.FrozenView.{p_task_view}
use Rattle.canvas_celery.specs.ExportView.{naming}
use Rattle.canvas_celery.proofs.Exported.Sigs.{tasks_items}
use Rattle.canvas_celery.proofs.Exported.Lines.{appended}
use Rattle.canvas_celery.proofs.commands.write.frozen.write_tasks.Goals as goal

pub returns : goal.returns
returns c =
    after_ok c.end_array.result c.args.out.now c.write_each.new.out c.end_array.new.self _ (end_array ∷ []) _ c.in_ok-write_each.ensures
    (appended c.end_array.result c.write_each.new.out c.end_array.new.self end_array c.end_array.ensures)
    (tasks_items (naming c.args.names.now) (map p_task_view c.args.tasks.now))
