use Rattle.std.proofs.Common.{◌∙◌, ◌∷◌, ◌++◌, [], sym, ap}
use Rattle.canvas_rewrite.specs.FrozenView.{p_task_view, place_or}
use Rattle.canvas_envelope.specs.MessageView.{rest_seen}
use Rattle.canvas_effects.specs.Carrying.{can_stand}
use Rattle.canvas_effects.specs.Placing.{last_at, placed}
use Rattle.canvas_effects.specs.steps.Walks.{input_seen, started}
use Rattle.canvas_effects.proofs.Standing.{message_fits}
use Rattle.canvas_effects.proofs.effects.started.start_task.Goals as goal

pub first_message-requires : goal.first_message-requires
first_message-requires c =
    let p = place_or c.args.place in
    let l = rest_seen c.in-Some.rest in
    message_fits c.args.parent.now (last_at p (p_task_view c.in-Some.first) l) (input_seen c.args.input.now) (placed p l)
    c.requires.parent c.requires.input (ap (λ z. can_stand z p) (sym c.in-Some.ensures) ∙ c.requires.line)

pub returns-in_ok-push-in-Some : goal.returns-in_ok-push-in-Some
returns-in_ok-push-in-Some c =
    c.in_ok-push-in-Some.ensures.items
    ∙ ap (λ m. c.args.messages.now.items ++ m ∷ []) c.in_ok-first_message-in-Some.ensures
    ∙ ap (λ l. c.args.messages.now.items ++ started l (input_seen c.args.input.now) (place_or c.args.place) c.args.parent.now) (sym c.in-Some.ensures)
