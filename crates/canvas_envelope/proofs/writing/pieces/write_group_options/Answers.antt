use Rattle.std.proofs.Common.{[], ◌∷◌, codes, refl}
use Rattle.json.specs.Token.{key, begin_object}
use Rattle.canvas_values.proofs.Written.Writers.{after_ok, then_tokens}
use Rattle.canvas_envelope.proofs.writing.pieces.write_group_options.Goals as goal

pub returns : goal.returns
returns c =
    let begun = c.in_ok-key.ensures in
    let opened = c.in_ok-begin_object.ensures in
    let named = c.in_ok-key-2.ensures in
    let options = then_tokens c.args.out.now c.key.new.self c.begin_object.new.self (key (codes "options") ∷ []) (begin_object ∷ []) (begun.ok, begun.room.0) (opened.ok, opened.room.0) in
    let front = then_tokens c.args.out.now c.begin_object.new.self c.key-2.new.self _ (key (codes "group_id") ∷ []) options (named.ok, named.room.0) in
    after_ok c.write_group_id.result c.args.out.now c.key-2.new.self c.write_group_id.new.out _ _ _ front c.write_group_id.ensures refl
