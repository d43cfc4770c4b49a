use Rattle.std.proofs.Common.{◌∙◌, ◌++◌, ap, ap₂}
use Rattle.std.proofs.lemmas.Result.{IfOk-weaker}
use Rattle.canvas_rewrite.specs.FrozenView.{p_line_view}
use Rattle.canvas_envelope.specs.Content.{number_of}
use Rattle.canvas_effects.specs.Ordered.{in_order}
use Rattle.canvas_effects.specs.steps.Walks.{skipped}
use Rattle.canvas_effects.proofs.effects.moved.skipped_behind.Goals as goal

pub returns : goal.returns
returns c =
    IfOk-weaker c.todo_of.result _ _
    (λ todo is. is
    ∙ ap₂ (λ ss p. record { stores = in_order (λ e. e.0) ss; messages = in_order (λ m. number_of m.own) c.args.messages.items; part = p })
    (c.in_ok-skip_line.ensures ∙ ap (λ xs. xs ++ skipped c.args.fault.now (p_line_view c.args.rest.now)) c.new-stores.ensures.items) c.in_ok-part.ensures)
    c.todo_of.ensures
