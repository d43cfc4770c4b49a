use Rattle.std.proofs.Common.{rules, [], ◌∷◌, codes, ap}
use Rattle.std.specs.Prelude.{decimal}
use Rattle.json.specs.Token.{key, number}
use Rattle.canvas_values.proofs.Written.Writers.{after_ok}
use Rattle.canvas_envelope.proofs.writing.pieces.write_how_many.Goals as goal

pub returns : goal.returns
returns c =
    after_ok c.u64.result c.args.out.now c.key.new.self c.u64.new.self (key (codes "chord_size") ∷ []) (number (decimal c.from.result) ∷ []) _
    (c.in_ok-key.ensures.ok, c.in_ok-key.ensures.room.0) (search rules) (ap (λ n. key (codes "chord_size") ∷ number (decimal n) ∷ []) c.from.ensures)
