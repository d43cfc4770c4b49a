use Rattle.std.proofs.Common.{◌∙◌, refl, None, ap, sym}
use Rattle.std.proofs.lemmas.Result.{IfOk-weaker}
use Rattle.canvas_rewrite.specs.FrozenView.{p_line_view}
use Rattle.canvas_effects.specs.Carrying.{is_whole}
use Rattle.canvas_effects.specs.Effects.{enter, effect_of}
use Rattle.canvas_effects.specs.Flowing.{run}
use Rattle.canvas_effects.specs.Placing.{end_place}
use Rattle.canvas_effects.specs.steps.Walks.{input_seen}
use Rattle.canvas_effects.proofs.Ended.{body_started}
use Rattle.canvas_effects.proofs.Sharing.{of_same}
use Rattle.canvas_effects.proofs.effects.start_body.Goals as goal

pub start_whole-requires-clause-line : goal.start_whole-requires-clause-line
start_whole-requires-clause-line c = ap is_whole c.in_ok-body.ensures ∙ c.requires.line

pub start_whole-requires-clause-text : goal.start_whole-requires-clause-text
start_whole-requires-clause-text c = of_same c.args.text _ _ (ap end_place (sym c.in_ok-body.ensures)) c.requires.text

pub returns : goal.returns
returns c =
    IfOk-weaker c.todo_of.result _ _
    (λ todo is. is ∙ body_started (p_line_view c.in_ok-body.body)
    (input_seen c.args.input.now) _ _ _ _ (ap is_whole c.in_ok-body.ensures ∙ c.requires.line) c.new.ensures.items c.new-messages.ensures.items
    c.in_ok-start_whole.ensures refl
    ∙ ap (λ l. effect_of (enter l (run (input_seen c.args.input.now)) (end_place l) 0 None)) c.in_ok-body.ensures)
    c.todo_of.ensures
