use Rattle.canvas_rewrite.specs.FrozenView.{p_line_view}
use Rattle.canvas_semantics.specs.PlacedLine.{p_nowhere}
use Rattle.canvas_effects.proofs.Sharing.{of_same, place_at_end}
use Rattle.canvas_effects.proofs.effects.moved.go_on.Goals as goal

pub start_whole-requires-clause-text : goal.start_whole-requires-clause-text
start_whole-requires-clause-text c =
    of_same c.carried_by.result _ _ (place_at_end p_nowhere (p_line_view c.args.line) c.requires.follows)
    (c.carried_by.ensures p_nowhere (p_line_view c.args.line) c.requires.texts)
