use Rattle.std.proofs.Common.{[], ◌∷◌, codes, refl}
use Rattle.json.specs.Token.{key, begin_object, end_object}
use Rattle.canvas_values.proofs.Written.Writers.{after_ok, then_tokens}
use Rattle.canvas_values.proofs.writing.node.write_closing.Goals as goal

pub returns : goal.returns
returns c =
    let begun = c.in_ok-key.ensures in
    let opened = c.in_ok-begin_object.ensures in
    let closed = c.in_ok-end_object.ensures in
    let empty = then_tokens c.key.new.self c.begin_object.new.self c.end_object.new.self (begin_object ∷ []) (end_object ∷ []) (opened.ok, opened.room.0)
    (closed.ok, closed.room.0) in
    let options = then_tokens c.args.out.now c.key.new.self c.end_object.new.self (key (codes "options") ∷ []) _ (begun.ok, begun.room.0) empty in
    after_ok c.write_kind.result c.args.out.now c.end_object.new.self c.write_kind.new.out _ _ _ options c.write_kind.ensures refl
