use Rattle.std.proofs.Common.{◌∙◌, [], ◌∷◌, ◌++◌, None, refl, sym, ap, ap₂}
use Rattle.canvas_rewrite.specs.FrozenView.{p_line_view, p_task_view, place_or}
use Rattle.canvas_semantics.specs.PlacedLine.{p_stop}
use Rattle.canvas_effects.specs.Carrying.{can_stand}
use Rattle.canvas_effects.specs.Flowing.{no_input}
use Rattle.canvas_effects.specs.Placing.{last_at}
use Rattle.canvas_effects.specs.steps.Walks.{started}
use Rattle.canvas_effects.proofs.Standing.{message_fits}
use Rattle.canvas_effects.proofs.effects.first.portion_of.Goals as goal

pub only_message-requires : goal.only_message-requires
only_message-requires c =
    let p = place_or c.in_ok-place.place in
    message_fits None (last_at p (p_task_view c.in-Some.task.now) p_stop) no_input p_stop refl refl
    (ap (λ l. can_stand l p) (sym c.in-Some.ensures) ∙ ap (can_stand (p_line_view c.args.line.now)) c.in_ok-place.ensures ∙ c.requires)

pub returns-in-Some : goal.returns-in-Some
returns-in-Some c =
    c.in_ok-push.ensures.items ∙ ap₂ (λ old m. old ++ m ∷ []) c.in_ok-messages.ensures.items c.in_ok-only_message.ensures
    ∙ ap₂ (λ l q. started l no_input q None) (sym c.in-Some.ensures) c.in_ok-place.ensures

pub start_line-requires-clause-line : goal.start_line-requires-clause-line
start_line-requires-clause-line c = ap₂ can_stand c.in_ok-line.ensures c.in_ok-place.ensures ∙ c.requires

pub returns : goal.returns
returns c =
    c.in_ok-start_line.ensures
    ∙ ap (λ old. old ++ started (p_line_view c.in_ok-line.line) no_input (place_or c.in_ok-place.place) None) c.in_ok-messages.ensures.items
    ∙ ap₂ (λ l q. started l no_input q None) c.in_ok-line.ensures c.in_ok-place.ensures
