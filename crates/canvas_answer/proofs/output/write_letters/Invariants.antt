use Rattle.std.proofs.Common.{◌≡◌, ℕ, List, ◌++◌, drop}
use Rattle.std.specs.Io.KnownBytes.{Appends}
use Rattle.canvas_answer.specs.Letters.{message_lines}
use Rattle.canvas_answer.specs.Printing.{printed}
use Rattle.canvas_answer.proofs.output.write_letters.Given as goal

-- what was printed so far, and the lines to come
abbrev pub invariant-loop-letter : goal.invariant-loop-letter
invariant-loop-letter g l =
    (bytes : List ℕ) × Appends (g.W.Write.contents l.fn.out) (g.W.Write.contents l.out) bytes
    × (bytes ++ printed (message_lines (drop l.letter-index l.letters)) ≡ printed (message_lines l.letters))
