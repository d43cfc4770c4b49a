use Rattle.std.proofs.Common.{sym, ap, ◌∙◌, true≢false}
use Rattle.canvas_envelope.specs.steps.Parts.{is_stop}
use Rattle.canvas_effects.proofs.effects.moved.is_last.Goals as goal

pub returns-in-Some : goal.returns-in-Some
returns-in-Some c = λ e. true≢false (ap is_stop (sym e ∙ c.in-Some.ensures.0) ∙ c.in-Some.ensures.1)
