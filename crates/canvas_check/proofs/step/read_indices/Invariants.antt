use Rattle.std.proofs.Common.{drop}
use Rattle.canvas_check.specs.Pointer.{AreIndices}
use Rattle.canvas_check.proofs.step.read_indices.Given as goal

abbrev pub invariant-loop-step : goal.invariant-loop-step
invariant-loop-step l = AreIndices (drop l.step-index l.steps) → AreIndices l.steps
