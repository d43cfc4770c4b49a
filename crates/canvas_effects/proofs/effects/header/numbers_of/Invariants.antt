use Rattle.std.proofs.Common.{◌≡◌, ◌++◌, drop}
use Rattle.canvas_effects.specs.steps.Walks.{successes}
use Rattle.canvas_effects.proofs.effects.header.numbers_of.Given as goal

abbrev pub invariant-loop-ended : goal.invariant-loop-ended
invariant-loop-ended l = l.numbers.items ++ successes (drop l.ended-index l.outcomes) ≡ successes l.outcomes
