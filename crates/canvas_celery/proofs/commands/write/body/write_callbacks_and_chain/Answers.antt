use Rattle.std.proofs.Common.{[], ◌∷◌, map, reverse, codes, append_assoc}
use Rattle.json.specs.Token.{key, begin_object}
use Rattle.canvas_values.specs.steps.Tokens.{data_tokens}
use Rattle.canvas_values.proofs.Written.Writers.{after_ok, then_tokens}
use Rattle.canvas_rewrite.specs.FrozenView.{p_tasks_of, p_task_view}
use Rattle.canvas_envelope.specs.steps.Tokens.{named_tokens}
use Rattle.canvas_envelope.specs.MessageView.{rest_seen}
use Rattle.canvas_envelope.specs.Wire.{list_or_null}
use Rattle.canvas_celery.specs.Signatures.{tasks_wire, each_wire, elements}
use Rattle.canvas_celery.specs.ExportView.{naming}
use Rattle.canvas_celery.proofs.commands.write.body.write_callbacks_and_chain.Goals as goal

pub returns : goal.returns
returns c =
    let n = naming c.args.names.now in
    let begun = c.in_ok-begin_object.ensures in
    let callbacks = c.in_ok-key.ensures in
    let chain = c.in_ok-key-2.ensures in
    let first = then_tokens c.args.out.now c.begin_object.new.self c.key.new.self (begin_object ∷ []) (key (codes "callbacks") ∷ [])
    (begun.ok, begun.room.0) (callbacks.ok, callbacks.room.0) in
    let second = then_tokens c.args.out.now c.key.new.self c.write_callbacks.new.out _ _ first c.in_ok-write_callbacks.ensures in
    let third = then_tokens c.args.out.now c.write_callbacks.new.out c.key-2.new.self _ (key (codes "chain") ∷ []) second (chain.ok, chain.room.0) in
    after_ok c.write_rest.result c.args.out.now c.key-2.new.self c.write_rest.new.out _ _ _ third c.write_rest.ensures
    (append_assoc (begin_object ∷ named_tokens (codes "callbacks") (list_or_null (tasks_wire n (p_tasks_of (map p_task_view c.args.links.now)))))
    (key (codes "chain") ∷ [])
    (data_tokens (list_or_null (each_wire (reverse (elements n (rest_seen c.args.rest.now)))))))
