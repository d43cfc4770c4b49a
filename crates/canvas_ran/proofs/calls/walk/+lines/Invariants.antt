use Rattle.std.proofs.Common.{◌≡◌, ◌++◌, map, drop}
use Rattle.canvas_rewrite.specs.FrozenView.{line_in}
use Rattle.canvas_ran.specs.steps.FrontLists.{lines_fronts_of}
use Rattle.canvas_ran.proofs.calls.walk.+lines.Given as goal

abbrev pub invariant-push_lines-loop-line : goal.invariant-push_lines-loop-line
invariant-push_lines-loop-line l =
    l.found.items ++ lines_fronts_of l.fates (map line_in (drop l.line-index l.lines)) l.front
    ≡ l.fn.found.items ++ lines_fronts_of l.fates (map line_in l.lines) l.front
