use Rattle.std.proofs.Common.{◌∙◌, map, sym, ap, None}
use Rattle.canvas_rewrite.specs.FrozenView.{p_steps, p_task_view}
use Rattle.canvas_semantics.specs.PlacedLine.{p_stop}
use Rattle.canvas_envelope.specs.MessageView.{rest_seen}
use Rattle.canvas_effects.proofs.Copied.{made_of}
use Rattle.canvas_effects.proofs.effects.moved.line_of.Goals as goal

pub returns-in-None : goal.returns-in-None
returns-in-None c = made_of _ None ∙ ap (λ ts. p_steps (map p_task_view ts) p_stop) (c.of.ensures ∙ c.new.ensures.items) ∙ sym (ap rest_seen c.in-None.is)
