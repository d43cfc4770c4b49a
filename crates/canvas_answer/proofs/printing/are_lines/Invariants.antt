use Rattle.std.proofs.Common.{◌≡◌, ◌&&◌, drop}
use Rattle.std.specs.List.{list_all}
use Rattle.canvas_answer.specs.Printing.{is_line_byte}
use Rattle.canvas_answer.proofs.printing.are_lines.Given as goal

-- what is known of the bytes so far, and what is to come
abbrev pub invariant-loop-byte : goal.invariant-loop-byte
invariant-loop-byte l = (l.are && list_all is_line_byte (drop l.byte-index l.bytes)) ≡ list_all is_line_byte l.fn.bytes
