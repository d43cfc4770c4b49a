use Rattle.std.proofs.Common.{◌≡◌, ◌≤◌, ◌+◌, ◌*◌, ◌++◌, map}
use Rattle.canvas_semantics.specs.Line.{line_groups}
use Rattle.canvas_rewrite.specs.FrozenView.{line_of, end_of, lines_of, p_line_view}
use Rattle.canvas_rewrite.specs.Utf8.{AreUtf8Lines}
use Rattle.canvas_semantics.specs.steps.Numbering.{lines_from, lines_count, lines_group_count}
use Rattle.canvas_rewrite.proofs.numbering.+lines.Given as goal

abbrev pub decreases-freeze_line : goal.decreases-freeze_line
decreases-freeze_line l = 3 * line_groups (line_of l.line) + 1

abbrev pub decreases-freeze_end : goal.decreases-freeze_end
decreases-freeze_end l = 3 * line_groups (end_of l.end)

abbrev pub decreases-freeze_lines : goal.decreases-freeze_lines
decreases-freeze_lines l = 3 * lines_group_count (map line_of l.lines.items) + 2

abbrev pub invariant-freeze_lines-loop-line : goal.invariant-freeze_lines-loop-line
invariant-freeze_lines-loop-line l =
    (1 ≤ l.task) × (1 ≤ l.group) × (l.fn.group ≤ l.group)
    × (l.task + lines_count (map line_of l.line-iterator.rest.items) ≡ l.fn.task + lines_count (map line_of l.fn.lines.items))
    × (l.group + lines_group_count (map line_of l.line-iterator.rest.items) ≡ l.fn.group + lines_group_count (map line_of l.fn.lines.items))
    × (map p_line_view l.frozen.items ++ lines_from l.task l.group (map line_of l.line-iterator.rest.items)
    ≡ lines_from l.fn.task l.fn.group (map line_of l.fn.lines.items))
    × (AreUtf8Lines (lines_of (map line_of l.line-iterator.rest.items))
    → AreUtf8Lines (lines_of (map line_of l.fn.lines.items)))
