use Rattle.std.proofs.Common.{rules, [], ◌∷◌, codes, refl}
use Rattle.json.specs.Token.{key}
use Rattle.canvas_values.proofs.Written.Writers.{after_ok}
use Rattle.canvas_envelope.proofs.writing.around.write_task_before.Goals as goal

pub returns : goal.returns
returns c =
    after_ok c.key.result c.args.out.now c.write_task_front.new.out c.key.new.self _ (key (codes "chord") ∷ []) _ c.in_ok-write_task_front.ensures
    (search rules) refl
