use Rattle.std.proofs.Common.{◌<◌, length, arith}
use Rattle.canvas_semantics.specs.Line.{names}
use Rattle.canvas_report.proofs.ReportLines.{names_long}
use Rattle.canvas_celery.proofs.Exported.MarkedNames.{one_more, found_one, all_unmarked}
use Rattle.canvas_celery.proofs.commands.filled.marked_name.Goals as goal

pub loop-index-preserved : goal.loop-index-preserved
loop-index-preserved c =
    let inside : c.loop-index.index < length (names c.args.plan.now) =
    omega (arith, names_long c.args.plan.now, c.tasks-index-end.ensures.value, c.loop-index-test.true, c.loop-index.auto.index-end) in
    one_more (names c.args.plan.now) c.loop-index.index c.task_at.result _ c.is_marked_name.result c.task_at.ensures c.name-name.ensures.value
    c.is_marked_name.ensures c.if-is_marked_name.false inside c.loop-index.invariant

pub returns-then-is_marked_name : goal.returns-then-is_marked_name
returns-then-is_marked_name c none =
    found_one (λ name. name.now) c.name-name.result c.is_marked_name.result c.is_marked_name.ensures c.if-is_marked_name.true none

pub returns : goal.returns
returns c none =
    all_unmarked (names c.args.plan.now) c.loop-index.index
    (omega (arith, names_long c.args.plan.now, c.tasks-index-end.ensures.value, c.loop-index-test.false, c.loop-index.auto.index-end)) c.loop-index.invariant
