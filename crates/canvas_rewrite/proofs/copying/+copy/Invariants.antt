use Rattle.std.proofs.Common.{◌≡◌, map, take}
use Rattle.canvas_rewrite.specs.FrozenView.{line_of}
use Rattle.canvas_rewrite.proofs.copying.+copy.Given as goal

abbrev pub invariant-copy_lines-loop-line : goal.invariant-copy_lines-loop-line
invariant-copy_lines-loop-line l = map line_of l.copies.items ≡ map line_of (take l.line-index l.lines)
