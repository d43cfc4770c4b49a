use Rattle.std.proofs.Common.{rules, ◌≡◌, Ok, subst}
use Rattle.std.proofs.lemmas.Result.{IfOk-at_ok, IfOk-weaker}
use Rattle.canvas_adapt.specs.Stubs.{stubs_behaviour}
use Rattle.canvas_answer.specs.Asking.{asked_of}
use Rattle.canvas_answer.specs.Plans.{IsCanvasOf}
use Rattle.canvas_command.specs.Failing.{IsFailuresDone}
use Rattle.canvas_command.proofs.program.answer_cases.Goals as goal

pub returns : goal.returns
returns g c =
    let cases = c.in_ok-cases-in_default.cases in
    let adapts = c.args.request.now.adapts in
    let answers = c.args.answers in
    let made : c.of.result ≡ Ok cases = search rules in
    let (read, texted, adapted, worded, called) = IfOk-at_ok _ made c.of.ensures in
    let bytes = subst (λ x. IsCanvasOf adapts x cases.canvas) c.deref.ensures.value read in
    IfOk-weaker c.answer_failures.result _ _
    (λ a done. (
      c.in_ok-text.text.items,
      c.in_ok-text.ensures.read,
      (
        cases.canvas,
        bytes,
        subst (λ t. IsFailuresDone (stubs_behaviour answers.stubs.items (g.T.Tasks.behaviour t))
            (asked_of adapts answers) cases.canvas c.args.failures.fails a) called
            (subst (λ b. IsFailuresDone (stubs_behaviour answers.stubs.items (g.T.Tasks.behaviour cases.tasks.now)) (asked_of b answers) cases.canvas
            c.args.failures.fails a)
            adapted done),
      ),
    ))
    c.answer_failures.ensures.status
