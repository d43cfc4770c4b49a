use Rattle.std.proofs.Common.{[], ◌∷◌, codes, refl}
use Rattle.json.specs.Token.{key, begin_object}
use Rattle.canvas_values.proofs.Written.Writers.{after_ok, then_tokens}
use Rattle.canvas_celery.proofs.Exported.Lines.{appended}
use Rattle.canvas_celery.proofs.commands.write.pieces.write_opening.Goals as goal

pub returns : goal.returns
returns c =
    let named = c.in_ok-key.ensures in
    let flagged = then_tokens c.args.out.now c.write_front.new.out c.write_flag.new.out _ _ c.in_ok-write_front.ensures c.in_ok-write_flag.ensures in
    let front = then_tokens c.args.out.now c.write_flag.new.out c.key.new.self _ (key (codes "kwargs") ∷ []) flagged (named.ok, named.room.0) in
    after_ok c.begin_object.result c.args.out.now c.key.new.self c.begin_object.new.self _ (begin_object ∷ []) _ front
    (appended c.begin_object.result c.key.new.self c.begin_object.new.self begin_object c.begin_object.ensures) refl
