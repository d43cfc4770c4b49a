use Rattle.std.proofs.Common.{◌∙◌, ◌++◌, ap}
use Rattle.canvas_rewrite.proofs.PlanLines.{ok_same}
use Rattle.canvas_rewrite.specs.FrozenView.{p_line_view}
use Rattle.canvas_effects.specs.Carrying.{can_stand}
use Rattle.canvas_effects.specs.steps.Walks.{input_seen, started}
use Rattle.canvas_effects.proofs.Standing.{stands_there}
use Rattle.canvas_effects.proofs.effects.started.start_whole.Goals as goal

pub start_line-requires-clause-line : goal.start_line-requires-clause-line
start_line-requires-clause-line c =
    ap (can_stand (p_line_view c.args.line)) c.in_ok-place.ensures ∙ stands_there (p_line_view c.args.line) c.requires.line

pub returns : goal.returns
returns c =
    ok_same _ _ _ _ (ap (λ q. c.args.messages.now.items ++ started (p_line_view c.args.line) (input_seen c.args.input.now) q c.args.parent.now)
    c.in_ok-place.ensures) c.start_line.ensures
