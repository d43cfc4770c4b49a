use Rattle.std.proofs.Common.{◌∙◌, sym, ap}
use Rattle.canvas_rewrite.specs.FrozenView.{p_line_view}
use Rattle.canvas_effects.proofs.Ended.{carried_seen}
use Rattle.canvas_effects.proofs.effects.body_of.Goals as goal

pub returns : goal.returns
returns c =
    ap p_line_view c.deref.ensures ∙ ap (λ z. z.body) (sym (carried_seen c.chord.inside.carried) ∙ c.chord.view_is)
