use Rattle.std.proofs.Common.{◌≡◌, ◌≤◌, ◌+◌, ◌++◌, drop, length, map}
use Rattle.std.specs.Vec.{vec_len, vec_capacity}
use Rattle.canvas_engine.specs.steps.WorkerSlots.{tally_in}
use Rattle.canvas_engine.proofs.threads.handles.tally_all.Given as goal

-- the tallies so far, and room for those still to come
abbrev pub invariant-loop-slot : goal.invariant-loop-slot
invariant-loop-slot l =
    (l.tallies.items ++ map tally_in (drop l.slot-index l.slots) ≡ l.fn.tallies.items ++ map tally_in l.slots)
    × (vec_len l.tallies + length (drop l.slot-index l.slots) ≤ vec_capacity l.tallies)
