use Rattle.std.proofs.Common.{arith}
use Rattle.canvas_semantics.specs.Line.{names}
use Rattle.canvas_answer.proofs.NamesLeft.{found_here, not_here, none_left}
use Rattle.canvas_report.proofs.ReportLines.{names_long}
use Rattle.canvas_answer.proofs.names.has_name.Goals as goal

pub returns-then-is_called : goal.returns-then-is_called
returns-then-is_called c =
    found_here c.args.name.now (names c.args.plan.now) c.loop-index.index c.task_at.result _ c.is_called.result c.task_at.ensures c.name.ensures.value
    c.is_called.ensures c.if-is_called.true c.loop-index.invariant

pub loop-index-preserved : goal.loop-index-preserved
loop-index-preserved c =
    not_here c.args.name.now (names c.args.plan.now) c.loop-index.index c.task_at.result _ c.is_called.result c.task_at.ensures c.name.ensures.value
    c.is_called.ensures c.if-is_called.false c.loop-index.invariant

pub returns : goal.returns
returns c =
    none_left c.args.name.now (names c.args.plan.now) c.loop-index.index
    (omega (arith, names_long c.args.plan.now, c.tasks-index-end.ensures.value, c.loop-index-test.false)) c.loop-index.invariant
