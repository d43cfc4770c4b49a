use Rattle.canvas_effects.proofs.effects.moved.carried_by.Goals as goal

pub returns : goal.returns
returns c own rest h = h.carried
