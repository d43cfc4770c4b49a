use Rattle.std.proofs.Common.{[], ◌∷◌, codes}
use Rattle.json.specs.Token.{key}
use Rattle.canvas_values.proofs.Written.Writers.{after_ok}
use Rattle.canvas_envelope.proofs.Written.TaskTokens.{a_group}
use Rattle.canvas_envelope.proofs.writing.pieces.write_group.Goals as goal

pub returns-in_ok-key-in-Some : goal.returns-in_ok-key-in-Some
returns-in_ok-key-in-Some c =
    after_ok c.write_group_id.result c.args.out.now c.key.new.self c.write_group_id.new.out (key (codes "group_id") ∷ []) _ _
    (c.in_ok-key-in-Some.ensures.ok, c.in_ok-key-in-Some.ensures.room.0) c.write_group_id.ensures (a_group c.args.place.now c.in-Some.place c.in-Some.is)
