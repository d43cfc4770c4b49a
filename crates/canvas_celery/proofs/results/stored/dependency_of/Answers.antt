use Rattle.std.proofs.Common.{rules, ◌≡◌, length}
use Rattle.canvas_semantics.specs.Line.{count_line}
use Rattle.canvas_task.specs.Printed.{why_name}
use Rattle.canvas_celery.proofs.Collected.Dependency.{blames_one, one_name}
use Rattle.canvas_celery.proofs.Collected.Identifiers.{full}
use Rattle.canvas_celery.proofs.results.stored.dependency_of.Goals as goal

pub returns-in-Some-why_of : goal.returns-in-Some-why_of
returns-in-Some-why_of c = blames_one c.args.run.now.digits c.args.message.now (count_line c.args.plan.now) _ _ _ c.in-Some.ensures c.in-Some-why_of.ensures

pub returns-in-None-why_of : goal.returns-in-None-why_of
returns-in-None-why_of c dep why b =
    let as_long : length c.args.run.now.digits ≡ 22 = full c.digits-digits.result c.args.run.now.digits c.digits-digits.ensures (search rules) in
    c.in-None-why_of.ensures why
    (one_name c.args.run.now.digits c.args.message.now (count_line c.args.plan.now) _ dep _ (why_name why) as_long c.in-Some.ensures b)
