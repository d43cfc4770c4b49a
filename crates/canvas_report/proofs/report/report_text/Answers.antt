use Rattle.std.proofs.Common.{◌++◌, ◌∙◌, ap, string_bytes}
use Rattle.canvas_rewrite.specs.Ends.{gives_a_list, end_tasks}
use Rattle.canvas_semantics.specs.Line.{tree_of}
use Rattle.canvas_semantics.specs.Report.{names_by_number as named}
use Rattle.canvas_semantics.specs.States.{rows_from}
use Rattle.canvas_report.specs.Listing.{lines, result_by}
use Rattle.canvas_report.specs.steps.ReportRows.{run_line, run_value}
use Rattle.canvas_report.proofs.ReportLines.{whole, report_is}
use Rattle.canvas_report.proofs.report.report_text.Goals as goal

pub returns : goal.returns
returns c =
    let rows = rows_from 1 c.args.report.now.rows in
    whole (run_line rows) (run_value rows) c.args.plan.now (gives_a_list c.ends.result) (end_tasks c.ends.result) _ _ _ _ _ c.in_ok-text.ensures.bytes
    (c.in_ok-push_rows.ensures
    ∙ ap (λ rs. string_bytes c.in_ok-text.text ++ lines (run_line (rows_from 1 rs)) (named (tree_of c.args.plan.now)))
    (c.deref.ensures.value ∙ c.get-rows.ensures))
    c.in_ok-push_str.ensures.bytes c.ends.ensures.tasks c.ends.ensures.list
    (c.in_ok-push_result.ensures
    ∙ ap (λ rs. string_bytes c.push_str.new.self ++ result_by (run_value (rows_from 1 rs)) (gives_a_list c.ends.result) (end_tasks c.ends.result))
    (c.deref-2.ensures.value ∙ c.get-rows.ensures))
    c.in_ok-push_str-2.ensures.bytes
    ∙ report_is (tree_of c.args.plan.now) rows
