use Rattle.std.proofs.Common.{[], ◌∷◌, refl}
use Rattle.json.specs.Token.{key}
use Rattle.canvas_values.proofs.Written.Writers.{after_ok}
use Rattle.canvas_celery.proofs.Exported.Ascii.{run_group_ascii}
use Rattle.canvas_celery.proofs.commands.write.names.write_group_member.Goals as goal

pub write_id-requires : goal.write_id-requires
write_id-requires c = rw c.group_text.ensures.value (run_group_ascii c.args.names.now.run.now.digits c.args.names.now.run.now.hexadecimal c.args.group)

pub returns : goal.returns
returns c =
    after_ok c.write_id.result c.args.out.now c.key.new.self c.write_id.new.out (key c.args.name.now ∷ []) _ _
    (c.in_ok-key.ensures.ok, c.in_ok-key.ensures.room.0) c.write_id.ensures
    (rw c.group_text.ensures.value refl)
