use Rattle.std.proofs.Common.{◌≡◌, ◌++◌, map}
use Rattle.canvas_history.specs.Lists.{Each}
use Rattle.canvas_runs.specs.Worker.{sealed}
use Rattle.canvas_engine.specs.steps.TurnRuns.{ReadsAs}
use Rattle.canvas_engine.proofs.by_turns.firsts.seal_all.Given as goal

-- the envelopes so far with those that are still to come; and the messages so far read back
abbrev pub invariant-loop-message : goal.invariant-loop-message
invariant-loop-message l =
    (l.envelopes.items ++ map sealed l.message-iterator.rest.items ≡ l.fn.envelopes.items ++ map sealed l.fn.messages.items) ×
    (Each ReadsAs l.message-iterator.rest.items → Each ReadsAs l.fn.messages.items)
