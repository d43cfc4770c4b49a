use Rattle.std.proofs.Common.{◌≡◌, map, take}
use Rattle.canvas_rewrite.specs.FrozenView.{p_line_view}
use Rattle.canvas_effects.proofs.copies.+copy_line.Given as goal

abbrev pub invariant-copy_lines-loop-line : goal.invariant-copy_lines-loop-line
invariant-copy_lines-loop-line l = map p_line_view l.copies.items ≡ map p_line_view (take l.line-index l.lines)
