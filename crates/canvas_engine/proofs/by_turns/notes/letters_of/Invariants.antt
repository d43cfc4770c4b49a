use Rattle.std.proofs.Common.{◌≡◌, ◌++◌, map}
use Rattle.canvas_engine.specs.Noted.{step_seen}
use Rattle.canvas_engine.specs.Traced.{sent_in}
use Rattle.canvas_engine.proofs.by_turns.notes.letters_of.Given as goal

-- the letters so far with those that are still to come
abbrev pub invariant-loop-step : goal.invariant-loop-step
invariant-loop-step l =
    l.letters.items ++ sent_in (map step_seen l.step-iterator.rest.items) ≡ sent_in (map step_seen l.fn.steps.items)
