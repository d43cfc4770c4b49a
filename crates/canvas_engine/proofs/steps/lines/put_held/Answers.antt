use Rattle.canvas_engine.proofs.StepLining.{map_set}
use Rattle.canvas_engine.proofs.steps.lines.put_held.Goals as goal

pub returns-then-place-held : goal.returns-then-place-held
returns-then-place-held c = map_set (λ h. h.now) c.args.held.now c.args.place c.args.identifier
