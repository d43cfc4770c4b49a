use Rattle.std.proofs.Common.{[], ◌∷◌, codes, refl}
use Rattle.json.specs.Token.{key}
use Rattle.canvas_values.proofs.Written.Writers.{after_ok}
use Rattle.canvas_ran.proofs.calls.lines.write_header_after.Goals as goal

pub returns : goal.returns
returns c =
    after_ok c.write_list_or_null.result c.args.out.now c.key.new.self c.write_list_or_null.new.out (key (codes "header_after") ∷ []) _ _
    (c.in_ok-key.ensures.ok, c.in_ok-key.ensures.room.0) c.write_list_or_null.ensures refl
