use Rattle.std.proofs.Common.{rules, [], ◌∷◌, codes, false}
use Rattle.json.specs.Token.{key, begin_object}
use Rattle.canvas_values.proofs.Written.Writers.{after_ok, then_tokens}
use Rattle.serde_json.specs.Data.{no_items}
use Rattle.canvas_values.specs.steps.Tokens.{flag_tokens}
use Rattle.canvas_envelope.specs.steps.Tokens.{start_tokens}
use Rattle.canvas_envelope.proofs.Written.TaskTokens.{opened}
use Rattle.canvas_envelope.proofs.writing.pieces.write_opening.Goals as goal

pub returns : goal.returns
returns c =
    let named = c.in_ok-key.ensures in
    let flagged = then_tokens c.args.out.now c.write_start.new.out c.write_flag.new.out _ _ c.in_ok-write_start.ensures c.in_ok-write_flag.ensures in
    let front = then_tokens c.args.out.now c.write_flag.new.out c.key.new.self _ (key (codes "kwargs") ∷ []) flagged (named.ok, named.room.0) in
    after_ok c.begin_object.result c.args.out.now c.key.new.self c.begin_object.new.self _ (begin_object ∷ []) _ front (search rules) (opened (start_tokens c.args.size no_items) (flag_tokens false) (key (codes "kwargs") ∷ []) (begin_object ∷ []))
