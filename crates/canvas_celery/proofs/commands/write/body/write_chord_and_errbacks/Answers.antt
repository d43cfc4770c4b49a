use Rattle.std.proofs.Common.{[], ◌∷◌, map, codes, append_assoc}
use Rattle.json.specs.Token.{key}
use Rattle.canvas_values.specs.steps.Tokens.{data_tokens}
use Rattle.canvas_values.proofs.Written.Writers.{after_ok, then_tokens}
use Rattle.canvas_rewrite.specs.FrozenView.{p_tasks_of, p_task_view}
use Rattle.canvas_envelope.specs.steps.Tokens.{named_tokens}
use Rattle.canvas_envelope.specs.MessageView.{place_seen}
use Rattle.canvas_envelope.specs.Wire.{list_or_null}
use Rattle.canvas_celery.specs.Signatures.{tasks_wire, body_at}
use Rattle.canvas_celery.specs.ExportView.{naming}
use Rattle.canvas_celery.proofs.commands.write.body.write_chord_and_errbacks.Goals as goal

pub returns : goal.returns
returns c =
    let n = naming c.args.names.now in
    let chord = c.in_ok-key.ensures in
    let errbacks = c.in_ok-key-2.ensures in
    let first = then_tokens c.args.out.now c.key.new.self c.write_chord.new.out (key (codes "chord") ∷ []) _ (chord.ok, chord.room.0)
    c.in_ok-write_chord.ensures in
    let second = then_tokens c.args.out.now c.write_chord.new.out c.key-2.new.self _ (key (codes "errbacks") ∷ []) first (errbacks.ok, errbacks.room.0) in
    after_ok c.write_callbacks.result c.args.out.now c.key-2.new.self c.write_callbacks.new.out _ _ _ second c.write_callbacks.ensures
    (append_assoc (named_tokens (codes "chord") (body_at n (place_seen c.args.place.now))) (key (codes "errbacks") ∷ [])
    (data_tokens (list_or_null (tasks_wire n (p_tasks_of (map p_task_view c.args.errbacks.now))))))
