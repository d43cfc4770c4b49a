use Rattle.std.proofs.Common.{rules, [], ◌∷◌, codes, refl}
use Rattle.json.specs.Token.{key, boolean}
use Rattle.canvas_values.proofs.Written.Writers.{after_ok}
use Rattle.canvas_values.proofs.writing.task.write_flag.Goals as goal

pub returns : goal.returns
returns c =
    after_ok c.boolean.result c.args.out.now c.key.new.self c.boolean.new.self (key (codes "immutable") ∷ []) (boolean c.args.immutable ∷ []) _
    (c.in_ok-key.ensures.ok, c.in_ok-key.ensures.room.0) (search rules) refl
