use Rattle.std.proofs.Common.{◌≡◌, ◌++◌, map, drop}
use Rattle.canvas_rewrite.specs.FrozenView.{line_in}
use Rattle.canvas_semantics.specs.steps.Numbering.{lines_group_entries}
use Rattle.canvas_rewrite.proofs.groups.+groups.Given as goal

abbrev pub invariant-push_all_groups-loop-line : goal.invariant-push_all_groups-loop-line
invariant-push_all_groups-loop-line l =
    l.groups.items ++ lines_group_entries (map line_in (drop l.line-index l.lines)) ≡ l.fn.groups.items
    ++ lines_group_entries (map line_in l.lines)
