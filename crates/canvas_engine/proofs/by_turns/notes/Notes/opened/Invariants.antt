use Rattle.std.proofs.Common.{◌≡◌, ◌++◌, drop, map}
use Rattle.canvas_engine.specs.Noted.{opening_step, step_seen}
use Rattle.canvas_engine.specs.steps.Noting.{kept}
use Rattle.canvas_engine.proofs.by_turns.notes.Notes.opened.Given as goal

-- what was noted so far with what is still to come
abbrev pub invariant-loop-letter : goal.invariant-loop-letter
invariant-loop-letter l =
    (l.self.keeps ≡ l.fn.self.keeps)
    × (map step_seen l.self.steps.items ++ kept l.fn.self.keeps (map opening_step (drop l.letter-index l.letters))
    ≡ map step_seen l.fn.self.steps.items ++ kept l.fn.self.keeps (map opening_step l.letters))
