use Rattle.std.proofs.Common.{[], ◌∷◌, ◌∙◌, codes}
use Rattle.json.specs.Token.{key, begin_object}
use Rattle.canvas_values.proofs.Written.Writers.{after_ok, then_tokens}
use Rattle.canvas_celery.proofs.Exported.Lines.{appended}
use Rattle.canvas_celery.proofs.Exported.Elements.{front_written}
use Rattle.canvas_celery.proofs.commands.write.pieces.write_task_front.Goals as goal

pub returns : goal.returns
returns c =
    let named = c.in_ok-key.ensures in
    let flagged = then_tokens c.write_front.new.out c.write_flag.new.out c.write_kwargs.new.out _ _ c.in_ok-write_flag.ensures c.in_ok-write_kwargs.ensures in
    let call = then_tokens c.args.out.now c.write_front.new.out c.write_kwargs.new.out _ _ c.in_ok-write_front.ensures flagged in
    let front = then_tokens c.args.out.now c.write_kwargs.new.out c.key.new.self _ (key (codes "options") ∷ []) call (named.ok, named.room.0) in
    after_ok c.begin_object.result c.args.out.now c.key.new.self c.begin_object.new.self _ (begin_object ∷ []) _ front
    (appended c.begin_object.result c.key.new.self c.begin_object.new.self begin_object c.begin_object.ensures)
    (front_written c.args.task.now _ _ (c.deref.ensures.value ∙ c.get.ensures) c.get-2.ensures.entries)
