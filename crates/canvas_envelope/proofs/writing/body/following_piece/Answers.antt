use Rattle.std.proofs.Common.{◌∙◌, sym, ap}
use Rattle.serde_json.specs.Data.{null}
use Rattle.canvas_rewrite.specs.FrozenView.{p_line_view}
use Rattle.canvas_envelope.specs.Fits.{fits}
use Rattle.canvas_envelope.specs.SharedTexts.{backwards}
use Rattle.canvas_envelope.specs.Wire.{list_or_null}
use Rattle.canvas_envelope.specs.steps.Parts.{is_stop}
use Rattle.canvas_envelope.specs.steps.Texts.{onward_text}
use Rattle.canvas_envelope.proofs.Written.Bodies.{line_onward, line_utf8}
use Rattle.canvas_envelope.proofs.Written.LineTokens.{some_following}
use Rattle.canvas_envelope.proofs.Written.Followed.{carries_nothing}
use Rattle.canvas_envelope.proofs.writing.body.following_piece.Goals as goal

pub returns-in_ok-piece-in-Some-clause-value : goal.returns-in_ok-piece-in-Some-clause-value
returns-in_ok-piece-in-Some-clause-value c =
    let now = c.args.message.now in
    let rest = p_line_view c.in-Some.rest.now in
    let there = c.in-Some.ensures in
    line_onward _ (backwards rest) c.in_ok-piece-in-Some.ensures.value
    ∙ ap (λ d. onward_text d null)
    (some_following rest there.1 ∙ ap (λ z. list_or_null (backwards z)) (sym there.0 ∙ ap (λ z. z.rest) c.message.view_is))
    ∙ ap (onward_text (list_or_null (backwards now.rest)))
    (sym (carries_nothing now now.rest (ap fits (sym c.message.view_is) ∙ c.message.invariant.0)
    (ap (λ z. is_stop z.rest) (sym c.message.view_is) ∙ ap is_stop there.0 ∙ there.1)))

pub returns-in_ok-piece-in-Some-clause-utf8 : goal.returns-in_ok-piece-in-Some-clause-utf8
returns-in_ok-piece-in-Some-clause-utf8 c = line_utf8 _ c.in_ok-piece-in-Some.ensures.utf8
