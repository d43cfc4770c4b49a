use Rattle.std.proofs.Common.{◌≡◌, ◌++◌, drop, map}
use Rattle.canvas_engine.specs.StepLines.{none_held, steps_text}
use Rattle.canvas_engine.proofs.steps.lines.steps_text.Given as goal

abbrev pub invariant-loop-step : goal.invariant-loop-step
invariant-loop-step l =
    l.text.items ++ steps_text l.plan l.rows (map (λ h. h.now) l.held.items) (drop l.step-index l.steps)
    ≡ steps_text l.plan l.rows none_held l.steps
