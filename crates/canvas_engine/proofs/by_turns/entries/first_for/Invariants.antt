use Rattle.std.proofs.Common.{◌≡◌, false, take}
use Rattle.canvas_runs.specs.Redeliveries.{has}
use Rattle.canvas_engine.proofs.by_turns.entries.first_for.Given as goal

-- the entries so far are for other points
abbrev pub invariant-loop-index : goal.invariant-loop-index
invariant-loop-index l = has l.point.0 l.point.1 (take l.index l.entries) ≡ false
