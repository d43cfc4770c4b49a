use Rattle.std.proofs.Common.{◌≡◌, ◌++◌, flat_map, take}
use Rattle.canvas_report.specs.Page.{escaped_byte}
use Rattle.canvas_report.proofs.page.escaping.push_escaped.Given as goal

abbrev pub invariant-loop-byte : goal.invariant-loop-byte
invariant-loop-byte l = l.page.items ≡ l.fn.page.items ++ flat_map escaped_byte (take l.byte-index l.text)
