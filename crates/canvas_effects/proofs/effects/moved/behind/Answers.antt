use Rattle.std.proofs.Common.{rules, ◌∙◌, ◌++◌, Some, sym, ap, ap₂, refl, w64}
use Rattle.std.proofs.lemmas.Int.{to_z-of_z}
use Rattle.std.proofs.lemmas.Result.{IfOk-weaker}
use Rattle.canvas_rewrite.specs.FrozenView.{p_line_view}
use Rattle.canvas_envelope.specs.Content.{number_of, links_of, errbacks_of}
use Rattle.canvas_effects.specs.Effects.{after, called, messages_in}
use Rattle.canvas_effects.specs.Flowing.{number_input}
use Rattle.canvas_effects.specs.Placing.{end_place}
use Rattle.canvas_effects.specs.steps.Walks.{started}
use Rattle.canvas_effects.proofs.Ended.{succeeded, failed}
use Rattle.canvas_effects.proofs.effects.moved.behind.Goals as goal

pub returns-in_ok-go_on-in-Success : goal.returns-in_ok-go_on-in-Success
returns-in_ok-go_on-in-Success c =
    let l = p_line_view c.args.rest in
    let whole = to_z-of_z w64 c.in-Success.number (search rules) in
    IfOk-weaker c.todo_of.result _ _
    (λ todo is m fit same task back. is
    ∙ succeeded m l c.in-Success.number _ _ _ _ fit same c.requires.follows c.new.ensures.items
    (back ∙ ap (λ o. messages_in (called (links_of m.own) (errbacks_of m.own) (number_of m.own) o)) c.in-Success.is)
    (c.in_ok-go_on-in-Success.ensures ∙ ap₂ (λ z k. c.args.messages.items ++ started l (number_input z) (end_place l) (Some k)) whole (sym task)) refl
    ∙ ap (after m) (sym c.in-Success.is))
    c.todo_of.ensures

pub returns-in-Failure : goal.returns-in-Failure
returns-in-Failure c =
    IfOk-weaker c.skipped_behind.result _ _
    (λ todo is m fit same task back. is
    ∙ failed m (p_line_view c.args.rest) c.in-Failure.fault _ _ _ _ fit same c.requires.follows refl refl
    (back ∙ ap (λ o. messages_in (called (links_of m.own) (errbacks_of m.own) (number_of m.own) o)) c.in-Failure.is) refl
    ∙ ap (after m) (sym c.in-Failure.is))
    c.skipped_behind.ensures
