use Rattle.std.proofs.Common.{◌≡◌, drop}
use Rattle.canvas_effects.specs.steps.Walks.{first_failure}
use Rattle.canvas_effects.proofs.effects.header.failure_of.Given as goal

abbrev pub invariant-loop-entry : goal.invariant-loop-entry
invariant-loop-entry l = first_failure (drop l.entry-index l.outcomes) ≡ first_failure l.outcomes
