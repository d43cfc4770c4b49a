use Rattle.std.proofs.Common.{◌∙◌, ap}
use Rattle.std.proofs.lemmas.Result.{IfOk-from_err}
use Rattle.canvas_envelope.specs.SharedTexts.{carried_bytes}
use Rattle.canvas_envelope.proofs.Written.CarriedTexts.{says_place, says_bytes}
use Rattle.canvas_envelope.proofs.writing.body.text_of.Goals as goal

pub returns-in_ok-text-in-Some-known : goal.returns-in_ok-text-in-Some-known
returns-in_ok-text-in-Some-known c =
    let said = rw c.in-Some-known.is at c.requires in
    ap carried_bytes c.in_ok-text-in-Some-known.ensures ∙ says_bytes c.args.place.now c.in-Some.carried c.in-Some.is c.in-Some-known.text.value said

pub returns-in_ok-new-in-None-known : goal.returns-in_ok-new-in-None-known
returns-in_ok-new-in-None-known c =
    ap carried_bytes c.in_ok-new-in-None-known.ensures.ok
    ∙ says_bytes c.args.place.now c.in-Some.carried c.in-Some.is c.in_ok-text-in-None-known.text
    (says_place c.args.place.now c.in-Some.carried c.in-Some.is c.in_ok-text-in-None-known.text c.in_ok-text-in-None-known.ensures)

pub returns-in_err-text-in-Some-known : goal.returns-in_err-text-in-Some-known
returns-in_err-text-in-Some-known c = IfOk-from_err c.from_residual.result _ c.from_residual.ensures.0

pub returns-in_err-text-in-None-known : goal.returns-in_err-text-in-None-known
returns-in_err-text-in-None-known c =
    IfOk-from_err c.from_residual-in_err-text-in-None-known.result _ c.from_residual-in_err-text-in-None-known.ensures.0

pub returns-in_err-new-in-None-known : goal.returns-in_err-new-in-None-known
returns-in_err-new-in-None-known c =
    IfOk-from_err c.from_residual-in_err-new-in-None-known.result _ c.from_residual-in_err-new-in-None-known.ensures.0
