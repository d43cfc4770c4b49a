use Rattle.std.proofs.lemmas.Result.{IfOk-from_err}
use Rattle.std.proofs.Common.{◌∙◌, sym, ap, subst}
use Rattle.canvas_rewrite.specs.FrozenView.{p_line_view}
use Rattle.canvas_rewrite.specs.declared.frozen.Carried.{out-Carried}
use Rattle.canvas_envelope.specs.Content.{end_place}
use Rattle.canvas_envelope.specs.SharedTexts.{SaysCarried}
use Rattle.canvas_envelope.specs.steps.Around.{carries}
use Rattle.canvas_envelope.proofs.Written.CarriedTexts.{alone_made}
use Rattle.canvas_envelope.proofs.writing.carried.body_text.Goals as goal

pub returns-in_err-whole_text-in_default : goal.returns-in_err-whole_text-in_default
returns-in_err-whole_text-in_default c = IfOk-from_err c.from_residual.result _ c.from_residual.ensures.0

pub text_around-requires-clause-carries : goal.text_around-requires-clause-carries
text_around-requires-clause-carries c = sym (c.if-carries.ensures ∙ ap (λ l. carries (p_line_view l)) c.deref.ensures)

pub text_around-requires-clause-says : goal.text_around-requires-clause-says
text_around-requires-clause-says c =
    let said = rw c.in-Some.is at c.requires in
    subst (λ t. SaysCarried t (end_place (p_line_view (out-Carried c.args.carried.now).body.value))) (sym c.deref-in-Some.ensures) said

pub returns-in-Some : goal.returns-in-Some
returns-in-Some c = c.text_around.ensures

pub returns-in_ok-whole_text-in_default : goal.returns-in_ok-whole_text-in_default
returns-in_ok-whole_text-in_default c =
    alone_made c.alone.result _ (out-Carried c.args.carried.now).size (p_line_view (out-Carried c.args.carried.now).body.value)
    c.in_ok-whole_text-in_default.ensures c.alone.ensures.rings c.alone.ensures.core
