use Rattle.std.proofs.Common.{[], ◌∷◌, refl}
use Rattle.json.specs.Token.{end_array, end_object}
use Rattle.canvas_values.proofs.Written.Writers.{after_ok, then_tokens}
use Rattle.canvas_envelope.proofs.writing.pieces.write_chain_behind.Goals as goal

pub returns : goal.returns
returns c =
    let closed = then_tokens c.args.out.now c.end_array.new.self c.end_object.new.self (end_array ∷ []) (end_object ∷ [])
    (c.in_ok-end_array.ensures.ok, c.in_ok-end_array.ensures.room.0) (c.in_ok-end_object.ensures.ok, c.in_ok-end_object.ensures.room.0) in
    after_ok c.write_closing.result c.args.out.now c.end_object.new.self c.write_closing.new.out _ _ _ closed c.write_closing.ensures refl
