use Rattle.std.proofs.Common.{◌≡◌, ◌++◌}
use Rattle.canvas_engine.proofs.by_turns.turn_run.publish_all.Given as goal

-- the queue so far with what is still to come
abbrev pub invariant-loop-envelope : goal.invariant-loop-envelope
invariant-loop-envelope l = l.queue ++ l.envelope-iterator.rest.items ≡ l.fn.queue ++ l.fn.envelopes.items
