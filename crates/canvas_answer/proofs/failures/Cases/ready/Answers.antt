use Rattle.std.proofs.Common.{◌≡◌, ◌∙◌, refl, subst}
use Rattle.canvas_adapt.specs.Renamed.{renamed}
use Rattle.canvas_answer.specs.Plans.{IsPlanOf, run_line}
use Rattle.canvas_answer.proofs.failures.Cases.ready.Goals as goal

pub returns : goal.returns
returns g c =
    let canvas = c.args.self.now.canvas in
    let plans = c.in_ok-plans.plans in
    let same : c.in_ok-canvas.canvas ≡ canvas = c.in_ok-canvas.ensures.ok ∙ c.law_of_renames.ensures.none canvas in
    let renames = c.args.answers.renames.items in
    let runs = subst (λ rs. IsPlanOf (renamed rs c.in_ok-canvas.canvas) (run_line plans)) c.deref.ensures.value c.in_ok-plans.ensures.run in (
      refl,
      subst (λ d. IsPlanOf d plans.shown) same c.in_ok-plans.ensures.shown,
      subst (λ d. IsPlanOf (renamed renames d) (run_line plans)) same runs,
    )
