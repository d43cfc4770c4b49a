use Rattle.std.proofs.Common.{map}
use Rattle.canvas_engine.specs.StepLines.{none_held, steps_text}
use Rattle.canvas_engine.proofs.StepLining.{lines_all, lines_on}
use Rattle.canvas_engine.proofs.steps.lines.steps_text.Goals as goal

pub returns : goal.returns
returns c =
    let l = c.loop-step in
    lines_all c.args.plan.now c.args.rows.now c.args.steps.now l.step-index l.text.items (map (λ h. h.now) l.held.items)
    (steps_text c.args.plan.now c.args.rows.now none_held c.args.steps.now) l.invariant c.loop-step-test.false
