use Rattle.std.proofs.Common.{[], ◌∷◌, refl}
use Rattle.json.specs.Token.{end_object}
use Rattle.canvas_values.proofs.Written.Writers.{after_ok, then_tokens}
use Rattle.canvas_celery.proofs.commands.write.pieces.write_group_rest.Goals as goal

pub returns : goal.returns
returns c =
    let closed = c.in_ok-end_object.ensures in
    let options = then_tokens c.args.out.now c.write_group_member.new.out c.end_object.new.self _ (end_object ∷ []) c.in_ok-write_group_member.ensures
    (closed.ok, closed.room.0) in
    after_ok c.write_kind.result c.args.out.now c.end_object.new.self c.write_kind.new.out _ _ _ options c.write_kind.ensures refl
