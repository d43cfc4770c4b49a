use Rattle.std.proofs.Common.{◌∙◌, ◌++◌, append_assoc, ap, refl}
use Rattle.std.proofs.lemmas.Result.{on_ok_weaker}
use Rattle.canvas_answer.specs.Answers.{printed_out}
use Rattle.canvas_command.specs.Paged.{run_head}
use Rattle.canvas_command.proofs.page.put_run.Goals as goal

pub returns : goal.returns
returns g c = λ plans.
    let head = run_head c.args.workers c.args.again in
    let out = printed_out c.in_ok-answer.answer in
    let old = c.args.lines.now.items in
    let said = c.in_ok-extend_from_slice.ensures.items ∙ ap (λ b. old ++ b) (c.as_bytes.ensures.value ∙ c.in_ok-run_head.ensures) in
    on_ok_weaker c.put_answer.result
    (λ same. (head ++ out, (c.in_ok-answer.answer, c.in_ok-answer.ensures plans, refl), same ∙ ap (λ x. x ++ out) said ∙ append_assoc old head out))
    c.put_answer.ensures
