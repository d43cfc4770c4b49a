use Rattle.std.proofs.Common.{◌≡◌, ◌++◌, map, length}
use Rattle.canvas_history.specs.Lists.{Each}
use Rattle.canvas_effects.specs.Effects.{first_messages}
use Rattle.canvas_effects.specs.Portions.{together}
use Rattle.canvas_runs.specs.Worker.{sealed}
use Rattle.canvas_engine.specs.steps.TurnRuns.{ReadsAs}
use Rattle.canvas_engine.proofs.by_turns.firsts.first_envelopes.Given as goal

-- the envelopes so far with those of the portions that are left
abbrev pub invariant-portions : goal.invariant-portions
invariant-portions l =
    (l.envelopes.items ++ map sealed (together l.firsts) ≡ map sealed (first_messages l.plan)) ×
    (Each ReadsAs (together l.firsts) → Each ReadsAs (first_messages l.plan))

abbrev pub decreases-portions : goal.decreases-portions
decreases-portions l = length l.firsts
