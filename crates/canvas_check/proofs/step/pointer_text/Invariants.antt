use Rattle.std.proofs.Common.{◌≡◌, ◌++◌, string_bytes, drop}
use Rattle.canvas_check.specs.Pointer.{pointer_text}
use Rattle.canvas_check.proofs.step.pointer_text.Given as goal

abbrev pub invariant-loop-step : goal.invariant-loop-step
invariant-loop-step l = pointer_text l.steps ≡ string_bytes l.text ++ pointer_text (drop l.step-index l.steps)
