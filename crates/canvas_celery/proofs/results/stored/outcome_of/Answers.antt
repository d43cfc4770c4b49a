use Rattle.std.proofs.Common.{rules, ◌≡◌, codes, subst}
use Rattle.std.proofs.lemmas.Result.{err_from_is_err_and}
use Rattle.serde_json.specs.Data.{Data}
use Rattle.serde_json.specs.View.{view}
use Rattle.canvas_semantics.specs.Line.{count_line}
use Rattle.canvas_celery.specs.Stored.{state_of, result_of}
use Rattle.canvas_celery.specs.steps.Lacking.{LacksFault}
use Rattle.canvas_celery.specs.steps.Found.{value_at}
use Rattle.canvas_celery.proofs.Collected.Refusals.{of_exception}
use Rattle.canvas_celery.proofs.results.stored.outcome_of.Goals as goal

pub returns-in_err-fault : goal.returns-in_err-fault
returns-in_err-fault c =
    let p = err_from_is_err_and c.from_residual.result c.from_residual.ensures.1 in
    let failed : state_of (view c.args.meta.now) ≡ codes "FAILURE" = search rules in
    let found : value_at c.get-then-eq-2.result ≡ result_of (view c.args.meta.now) = search rules in
    let P : Data → Type 0 = λ d. LacksFault c.args.run.now.digits (count_line c.args.plan.now) d c.in_err-fault.field-0.0 in
    rw (p.1, p.2)
    (of_exception c.args.run.now.digits (count_line c.args.plan.now) (view c.args.meta.now) c.in_err-fault.field-0.0 failed
    (subst P found c.in_err-fault.ensures))
