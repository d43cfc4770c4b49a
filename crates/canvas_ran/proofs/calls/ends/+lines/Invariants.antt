use Rattle.std.proofs.Common.{◌≡◌, ◌++◌, map, drop}
use Rattle.canvas_rewrite.specs.FrozenView.{line_in}
use Rattle.canvas_ran.specs.steps.FrontLists.{lines_ends}
use Rattle.canvas_ran.proofs.calls.ends.+lines.Given as goal

abbrev pub invariant-lines_end-loop-line : goal.invariant-lines_end-loop-line
invariant-lines_end-loop-line l =
    l.found.items ++ lines_ends l.fates (map line_in (drop l.line-index l.lines)) ≡ lines_ends l.fates (map line_in l.lines)
