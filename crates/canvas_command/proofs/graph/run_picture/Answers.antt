use Rattle.std.proofs.Common.{◌∙◌, ap, subst, sym}
use Rattle.canvas_semantics.specs.Line.{tree_of}
use Rattle.canvas_semantics.specs.States.{states}
use Rattle.canvas_answer.specs.Asking.{asking}
use Rattle.canvas_answer.specs.Plans.{ArePlansOf, run_line}
use Rattle.canvas_command.proofs.Pictures.{of_plans}
use Rattle.canvas_command.proofs.graph.run_picture.Goals as goal

pub returns : goal.returns
returns g c =
    let source = c.args.source.now in
    let behaviour = g.T.Tasks.behaviour source.tasks.now in
    let plans = c.deref-2.result.now in
    of_plans behaviour (asking source.setting) source.text.now plans.shown (run_line plans) c.report_picture.result
    (subst (λ p. ArePlansOf (asking source.setting) source.text.now p.shown (run_line p)) (sym (c.deref-2.ensures ∙ c.lasting-plans.ensures))
    c.in_ok-checked_plans.ensures.ok)
    (c.report_picture.ensures behaviour
    (c.in_ok-report.ensures ∙ ap (λ l. states behaviour (tree_of l)) c.run.ensures
    ∙ ap (λ p. states behaviour (tree_of (run_line p))) (c.deref.ensures ∙ sym c.deref-2.ensures)))
