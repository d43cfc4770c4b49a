use Rattle.std.proofs.Common.{◌≡◌, ◌++◌, drop}
use Rattle.canvas_ran.specs.Calls.{call_lines}
use Rattle.canvas_ran.proofs.calls.lines.lines_of.Given as goal

-- the lines so far, and those to come
abbrev pub invariant-loop-letter : goal.invariant-loop-letter
invariant-loop-letter l =
    l.text.items ++ call_lines l.fronts l.shown (drop l.letter-index l.messages) ≡ call_lines l.fronts l.shown l.messages
