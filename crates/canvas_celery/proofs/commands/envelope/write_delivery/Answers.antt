use Rattle.std.proofs.Common.{rules, [], ◌∷◌, codes, refl}
use Rattle.json.specs.Token.{begin_object, end_object, key}
use Rattle.canvas_values.proofs.Written.Writers.{after_ok, then_tokens}
use Rattle.canvas_celery.proofs.commands.envelope.write_delivery.Goals as goal

pub returns : goal.returns
returns c =
    let named = c.in_ok-key.ensures in
    let begun = c.in_ok-begin_object.ensures in
    let first = then_tokens c.args.out.now c.key.new.self c.begin_object.new.self (key (codes "delivery_info") ∷ []) (begin_object ∷ []) (named.ok, named.room.0) (begun.ok, begun.room.0) in
    let second = then_tokens c.args.out.now c.begin_object.new.self c.write_text.new.out _ _ first c.in_ok-write_text.ensures in
    let third = then_tokens c.args.out.now c.write_text.new.out c.write_text-2.new.out _ _ second c.in_ok-write_text-2.ensures in
    after_ok c.end_object.result c.args.out.now c.write_text-2.new.out c.end_object.new.self _ (end_object ∷ []) _ third (search rules) refl
