use Rattle.std.proofs.Common.{◌∙◌, ◌∷◌, Some, ap}
use Rattle.std.specs.Prelude.{string_bytes}
use Rattle.json.specs.Print.{print}
use Rattle.canvas_rewrite.specs.FrozenView.{p_line_view}
use Rattle.canvas_rewrite.specs.declared.frozen.Carried.{out-Carried}
use Rattle.canvas_envelope.specs.steps.Around.{line_before, line_behind}
use Rattle.canvas_envelope.proofs.Written.CarriedTexts.{around_made}
use Rattle.canvas_envelope.proofs.writing.carried.text_around.Goals as goal

pub returns : goal.returns
returns c =
    let size = (out-Carried c.args.carried.now).size in
    let read = rw c.unwrap.ensures at c.from_utf8.ensures.ok in
    around_made c.around.result c.args.inner.now size (p_line_view (out-Carried c.args.carried.now).body.value) (string_bytes c.in_ok-before.before)
    (string_bytes c.unwrap.result) c.requires.carries c.requires.says
    (c.in_ok-before.ensures ∙ ap (λ x. print (line_before (Some size) (p_line_view x))) c.deref.ensures)
    (ap (λ v. v.items) read ∙ c.in_ok-behind.ensures.text ∙ ap (λ x. 44 ∷ print (line_behind (p_line_view x))) c.deref-2.ensures)
    c.around.ensures.rings c.around.ensures.core
