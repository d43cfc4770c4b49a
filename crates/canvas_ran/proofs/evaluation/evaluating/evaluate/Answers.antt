use Rattle.std.proofs.Common.{◌∙◌, ◌++◌, ap}
use Rattle.canvas_semantics.specs.Evaluation.{nothing}
use Rattle.canvas_rewrite.specs.FrozenView.{line_in}
use Rattle.canvas_semantics.specs.PlacedLine.{strip}
use Rattle.canvas_semantics.proofs.Numbered.{strip_bare}
use Rattle.canvas_ran.specs.steps.Walked.{line_states}
use Rattle.canvas_ran.proofs.Evaluated.States.{plan_states}
use Rattle.canvas_ran.proofs.evaluation.evaluating.evaluate.Goals as goal

pub returns : goal.returns
returns g c =
    let b = g.T.Tasks.behaviour c.args.tasks.now in
    c.of.ensures ∙ c.in_ok-push_line.ensures.pushed
    ∙ ap (λ ss. ss ++ line_states b (line_in c.line.result.now) nothing) c.in_ok-rows.ensures.items
    ∙ ap (λ l. line_states b l nothing) (ap strip c.line.ensures.value ∙ strip_bare c.args.plan.now)
    ∙ plan_states b c.args.plan.now c.line.ensures.planned
