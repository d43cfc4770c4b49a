use Rattle.std.proofs.Common.{◌≡◌, drop}
use Rattle.canvas_semantics.specs.Evaluation.{gathered}
use Rattle.canvas_ran.specs.steps.Flows.{in_front_of}
use Rattle.canvas_ran.proofs.evaluation.flow.gathered.Given as goal

abbrev pub invariant-loop-end : goal.invariant-loop-end
invariant-loop-end l = in_front_of l.numbers.items (gathered (drop l.end-index l.ends)) ≡ gathered l.ends
