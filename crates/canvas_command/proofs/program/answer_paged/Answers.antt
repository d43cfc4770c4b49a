use Rattle.std.proofs.Common.{rules, ◌≡◌, ◌∙◌, Ok, subst, sym}
use Rattle.std.proofs.lemmas.Result.{IfOk-at_ok, IfOk-weaker}
use Rattle.canvas_answer.specs.Asking.{asked_of}
use Rattle.canvas_answer.specs.Plans.{IsCanvasOf}
use Rattle.canvas_command.specs.Paged.{IsPaged}
use Rattle.canvas_command.proofs.program.answer_paged.Goals as goal

pub returns : goal.returns
returns g c =
    let cases = c.in_ok-cases-in_default.cases in
    let adapts = c.args.request.now.adapts in
    let answers = c.args.answers in
    let word = c.args.failures.word.now in
    let tasks = c.args.tasks.now in
    let made : c.of.result ≡ Ok cases = search rules in
    let (read, spelled, adapted, worded, called) = IfOk-at_ok _ made c.of.ensures in
    let reads = subst (λ t. IsCanvasOf cases.adapts t cases.canvas) (sym spelled)
    (subst (λ b. IsCanvasOf b c.deref.result.now cases.canvas) (sym adapted) read) in
    IfOk-weaker c.answer_page.result _ _
    (λ a done. (
      c.in_ok-text.text.items,
      c.in_ok-text.ensures.read,
      subst (λ x. IsPaged (g.T.Tasks.behaviour tasks) (asked_of adapts answers) word x a) (spelled ∙ c.deref.ensures.value)
          (subst (λ w. IsPaged (g.T.Tasks.behaviour tasks) (asked_of adapts answers) w cases.text.now a) worded
          (subst (λ b. IsPaged (g.T.Tasks.behaviour tasks) (asked_of b answers) cases.word.now cases.text.now a) adapted
          (subst (λ t. IsPaged (g.T.Tasks.behaviour t) (asked_of cases.adapts answers) cases.word.now cases.text.now a) called done))),
    ))
    (c.answer_page.ensures reads)
