use Rattle.std.proofs.Common.{[], ◌∷◌, refl}
use Rattle.json.specs.Token.{key}
use Rattle.canvas_values.proofs.Written.Writers.{after_ok}
use Rattle.canvas_envelope.proofs.writing.identifiers.write_task_member.Goals as goal

pub returns : goal.returns
returns c =
    after_ok c.write_task_id.result c.args.out.now c.key.new.self c.write_task_id.new.out (key c.args.name.now ∷ []) _ _
    (c.in_ok-key.ensures.ok, c.in_ok-key.ensures.room.0) c.write_task_id.ensures refl
