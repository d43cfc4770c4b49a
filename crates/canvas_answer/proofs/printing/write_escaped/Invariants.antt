use Rattle.std.proofs.Common.{flat_map}
use Rattle.canvas_answer.specs.Printing.{printed_char}
use Rattle.canvas_answer.proofs.Writes.{Wrote}
use Rattle.canvas_answer.proofs.printing.write_escaped.Given as goal

abbrev pub invariant-loop-c : goal.invariant-loop-c
invariant-loop-c g l = Wrote (g.W.Write.contents l.fn.out) (g.W.Write.contents l.out) l.kept.items (flat_map printed_char l.yielded)
