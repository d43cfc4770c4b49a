use Rattle.std.proofs.Common.{◌++◌, ◌∙◌, ap, sym, arith, string_bytes}
use Rattle.canvas_semantics.specs.Line.{names, name_of}
use Rattle.canvas_rewrite.proofs.NamesInOrder.{plan_names}
use Rattle.canvas_report.specs.JsonRows.{parameter_of}
use Rattle.canvas_report.specs.steps.ReportRows.{line_if}
use Rattle.canvas_report.specs.Listing.{lines}
use Rattle.canvas_report.specs.RowTexts.{row_line}
use Rattle.canvas_report.proofs.ReportLines.{names_long}
use Rattle.canvas_report.proofs.RowLines.{one_more, all_written}
use Rattle.canvas_report.proofs.rows.push_rows.Goals as goal

pub loop-index-preserved : goal.loop-index-preserved
loop-index-preserved c =
    let f = row_line c.args.told.fates.now (parameter_of c.args.told.blamed.now) c.args.rows.now in
    let written = c.in_ok-push_task.ensures
    ∙ ap (λ k. string_bytes c.loop-index.text ++ line_if f k (name_of c.args.plan.now k)) c.task_at.ensures in
    one_more f (names c.args.plan.now) c.loop-index.index _ _ _ written c.loop-index.invariant

pub returns : goal.returns
returns c =
    let f = row_line c.args.told.fates.now (parameter_of c.args.told.blamed.now) c.args.rows.now in
    all_written f (names c.args.plan.now) c.loop-index.index _ _
    (omega (arith, names_long c.args.plan.now, c.tasks-index-end.ensures.value, c.loop-index-test.false, c.loop-index.auto.index-end)) c.loop-index.invariant
    ∙ ap (λ ns. string_bytes c.args.text.now ++ lines f ns)
    (sym (plan_names c.args.plan.now c.tasks-index-end.ensures.planned))
