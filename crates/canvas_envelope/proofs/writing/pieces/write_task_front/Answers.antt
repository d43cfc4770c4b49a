use Rattle.std.proofs.Common.{rules, ◌∙◌, [], ◌∷◌, codes}
use Rattle.json.specs.Token.{begin_object, key}
use Rattle.canvas_values.proofs.Written.Writers.{after_ok, then_tokens}
use Rattle.canvas_envelope.proofs.Written.TaskTokens.{front_is}
use Rattle.canvas_envelope.proofs.writing.pieces.write_task_front.Goals as goal

pub returns : goal.returns
returns c =
    let out = c.args.out.now in
    let flagged = then_tokens out c.write_start.new.out c.write_flag.new.out _ _ c.in_ok-write_start.ensures c.in_ok-write_flag.ensures in
    let called = then_tokens out c.write_flag.new.out c.write_kwargs.new.out _ _ flagged c.in_ok-write_kwargs.ensures in
    let named = then_tokens out c.write_kwargs.new.out c.key.new.self _ (key (codes "options") ∷ []) called
    (c.in_ok-key.ensures.ok, c.in_ok-key.ensures.room.0) in
    after_ok c.begin_object.result out c.key.new.self c.begin_object.new.self _ (begin_object ∷ []) _ named (search rules)
    (front_is c.args.size c.args.task.now _ _ (c.deref.ensures.value ∙ c.get.ensures) c.get-2.ensures.entries)
