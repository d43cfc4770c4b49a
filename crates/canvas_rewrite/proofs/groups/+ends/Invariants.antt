use Rattle.std.proofs.Common.{◌≡◌, ◌++◌, map, drop}
use Rattle.canvas_rewrite.specs.FrozenView.{line_in}
use Rattle.canvas_semantics.specs.steps.Numbering.{lines_ends}
use Rattle.canvas_rewrite.proofs.groups.+ends.Given as goal

abbrev pub invariant-push_all-loop-line : goal.invariant-push_all-loop-line
invariant-push_all-loop-line l =
    l.ends.items ++ lines_ends (map line_in (drop l.line-index l.lines)) ≡ l.fn.ends.items ++ lines_ends (map line_in l.lines)
