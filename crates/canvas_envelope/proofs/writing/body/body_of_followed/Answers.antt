use Rattle.std.proofs.Common.{◌≡◌, ◌∙◌, false, sym, ap}
use Rattle.std.specs.Prelude.{not}
use Rattle.serde_json.specs.Data.{null}
use Rattle.serde_json.specs.Written.{compact_text}
use Rattle.canvas_semantics.specs.PlacedLine.{PLine}
use Rattle.canvas_envelope.specs.Fits.{fits}
use Rattle.canvas_envelope.specs.SharedTexts.{backwards}
use Rattle.canvas_envelope.specs.Wire.{list_or_null, body_wire}
use Rattle.canvas_envelope.specs.steps.Lines.{line_by}
use Rattle.canvas_envelope.specs.steps.Parts.{is_stop}
use Rattle.canvas_envelope.specs.steps.Texts.{onward_text}
use Rattle.canvas_envelope.proofs.Written.Bodies.{line_onward, line_utf8}
use Rattle.canvas_envelope.proofs.Written.LineTokens.{some_following}
use Rattle.canvas_envelope.proofs.Written.Followed.{carries_nothing, goes_on}
use Rattle.canvas_envelope.proofs.writing.body.body_of_followed.Goals as goal

pub body_with-requires : goal.body_with-requires
body_with-requires c =
    let rest = line_by c.followed.inside.tasks.items c.followed.inside.tail in
    let known = rw c.in-Some.is at c.followed.invariant.1.line in
    let said = rw c.in-Some-piece.is at c.in_ok-piece-in-Some.ensures.utf8 in
    line_utf8 _ (said rest known)

pub returns-in_ok-body-in-Some-piece-clause-value : goal.returns-in_ok-body-in-Some-piece-clause-value
returns-in_ok-body-in-Some-piece-clause-value c =
    let m = c.followed.inside.message in
    let rest = line_by c.followed.inside.tasks.items c.followed.inside.tail in
    let known = rw c.in-Some.is at c.followed.invariant.1.line in
    let said = rw c.in-Some-piece.is at c.in_ok-piece-in-Some.ensures.value in
    let more : is_stop rest ≡ false = goes_on (is_stop rest)
    (ap (λ z. not (is_stop z.rest)) c.followed.view_is ∙ sym c.goes_on.ensures ∙ c.if-not-goes_on.false) in
    c.in_ok-body-in-Some-piece.ensures.value rest
    (line_onward _ (backwards rest) (said rest known) ∙ ap (λ d. onward_text d null) (some_following rest more)
    ∙ ap (onward_text (list_or_null (backwards rest))) (sym (carries_nothing m rest c.followed.invariant.0 more)))
    ∙ ap (λ z. compact_text (body_wire z)) c.followed.view_is
