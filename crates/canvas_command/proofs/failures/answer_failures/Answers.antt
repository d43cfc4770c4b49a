use Rattle.std.proofs.Common.{◌≡◌, ◌∙◌, ap, subst, rules}
use Rattle.canvas_adapt.specs.Stubs.{stubs_behaviour}
use Rattle.canvas_answer.specs.Asking.{asked_of}
use Rattle.canvas_answer.specs.Told.{report_status}
use Rattle.canvas_command.specs.Failing.{IsFailedAs}
use Rattle.canvas_command.proofs.failures.answer_failures.Goals as goal

pub returns-clause-status : goal.returns-clause-status
returns-clause-status g c =
    let kept : c.deref.result.now ≡ c.args.cases = search rules in
    let based : c.deref-2.result.now ≡ c.in_ok-print_all.field-0 = search rules in
    let answers = c.args.answers in
    let counted = ap (report_status c.args.failures.fails) (c.failed.ensures ∙ ap (λ b. b.told.failed) based) in (
      c.in_ok-print_all.field-0.told.failed,
      subst (λ s. IsFailedAs (stubs_behaviour answers.stubs.items (g.T.Tasks.behaviour s.tasks.now)) (asked_of s.adapts answers) s.canvas
          c.in_ok-print_all.field-0.told.failed) kept c.in_ok-print_all.ensures.failed,
      record {
        out = c.ended.ensures.out;
        unrefused = c.ended.ensures.unrefused;
        ends = c.ended.ensures.ends ∙ c.status_of.ensures ∙ counted;
      },
    )
