use Rattle.std.proofs.Common.{◌≡◌, ◌≤◌, ◌+◌, ◌*◌, ◌++◌, map}
use Rattle.canvas_rewrite.specs.FrozenView.{p_line_view, p_end_view}
use Rattle.canvas_effects.specs.Carrying.{AllStand}
use Rattle.canvas_effects.specs.steps.Walks.{input_seen, all_started}
use Rattle.canvas_effects.proofs.Depth.{ends_in, ends_in_all}
use Rattle.canvas_effects.proofs.effects.started.+start.Given as goal

abbrev pub decreases-start_line : goal.decreases-start_line
decreases-start_line l = 3 * ends_in (p_line_view l.line) + 1

abbrev pub decreases-start_end : goal.decreases-start_end
decreases-start_end l = 3 * ends_in (p_end_view l.end)

abbrev pub decreases-start_members : goal.decreases-start_members
decreases-start_members l = 3 * ends_in_all (map p_line_view l.lines.items) + 2

abbrev pub invariant-start_members-loop-line : goal.invariant-start_members-loop-line
invariant-start_members-loop-line l =
    AllStand (l.place) (map p_line_view l.line-iterator.rest.items)
    × (ends_in_all (map p_line_view l.line-iterator.rest.items) ≤ ends_in_all (map p_line_view l.fn.lines.items))
    × (l.messages.items ++ all_started (map p_line_view l.line-iterator.rest.items) (input_seen l.input) (l.place) l.parent
    ≡ l.fn.messages.items ++ all_started (map p_line_view l.fn.lines.items) (input_seen l.input) (l.place) l.parent)
