use Rattle.std.proofs.Common.{◌≡◌, ◌++◌, map, drop}
use Rattle.canvas_rewrite.specs.FrozenView.{p_line_view}
use Rattle.canvas_effects.specs.steps.Walks.{all_skipped}
use Rattle.canvas_effects.proofs.effects.skipped.+skip.Given as goal

abbrev pub invariant-skip_lines-loop-line : goal.invariant-skip_lines-loop-line
invariant-skip_lines-loop-line l =
    l.stores.items ++ all_skipped l.fault (map p_line_view (drop l.line-index l.lines)) ≡ l.fn.stores.items ++ all_skipped l.fault (map p_line_view l.lines)
