use Rattle.std.proofs.Common.{◌≡◌, ◌++◌, map, drop}
use Rattle.canvas_rewrite.specs.FrozenView.{p_line_view}
use Rattle.canvas_effects.specs.Carrying.{AllWhole}
use Rattle.canvas_effects.specs.steps.Walks.{all_raised_stores, all_raised_messages}
use Rattle.canvas_effects.proofs.effects.raised.+raise.Given as goal

abbrev pub invariant-raise_lines-loop-line : goal.invariant-raise_lines-loop-line
invariant-raise_lines-loop-line l =
    AllWhole (map p_line_view (drop l.line-index l.lines))
    × (l.stores.items ++ all_raised_stores l.fault (map p_line_view (drop l.line-index l.lines)) ≡ l.fn.stores.items
    ++ all_raised_stores l.fault (map p_line_view l.lines))
    × (l.messages.items ++ all_raised_messages l.fault (map p_line_view (drop l.line-index l.lines)) ≡ l.fn.messages.items
    ++ all_raised_messages l.fault (map p_line_view l.lines))
