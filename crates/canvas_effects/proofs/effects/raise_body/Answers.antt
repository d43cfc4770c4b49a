use Rattle.std.proofs.Common.{◌∙◌}
use Rattle.std.proofs.lemmas.Result.{IfOk-weaker}
use Rattle.canvas_rewrite.specs.FrozenView.{p_line_view}
use Rattle.canvas_effects.proofs.Ended.{body_raised}
use Rattle.canvas_effects.proofs.effects.raise_body.Goals as goal

pub returns : goal.returns
returns c =
    IfOk-weaker c.todo_of.result _ _
    (λ todo is. is ∙ body_raised
    (p_line_view c.args.body.now) c.args.fault.now _ _ _ _ _ c.new-stores.ensures.items c.in_ok-raise_line.ensures.stores c.new-messages.ensures.items c.in_ok-raise_line.ensures.messages c.in_ok-part.ensures) c.todo_of.ensures
