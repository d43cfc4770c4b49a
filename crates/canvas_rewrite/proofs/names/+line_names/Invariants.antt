use Rattle.std.proofs.Common.{◌≡◌, ◌++◌, map, drop}
use Rattle.canvas_rewrite.specs.FrozenView.{line_in}
use Rattle.canvas_semantics.specs.steps.Numbering.{lines_all_names}
use Rattle.canvas_rewrite.proofs.names.+line_names.Given as goal

abbrev pub invariant-push_lines-loop-line : goal.invariant-push_lines-loop-line
invariant-push_lines-loop-line l =
    l.found ++ lines_all_names (map line_in (drop l.line-index l.lines)) ≡ l.fn.found ++ lines_all_names (map line_in l.lines)
