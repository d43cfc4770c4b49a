use Rattle.std.proofs.Common.{◌≡◌, ◌∙◌, List, ℕ, IfOk, subst, string_bytes}
use Rattle.canvas_semantics.specs.Line.{tree_of}
use Rattle.canvas_semantics.specs.States.{rows_from}
use Rattle.canvas_report.proofs.RowLaws.{report_written}
use Rattle.canvas_report.proofs.ReadBack.{read_back}
use Rattle.canvas_report.proofs.rows.rows_text.Goals as goal

pub returns-clause-lines : goal.returns-clause-lines
returns-clause-lines c =
    let P : List ℕ → Type 0 = λ x. IfOk c.lines_of.result (λ text. string_bytes text ≡ x) in
    subst P
    (report_written c.args.told.fates.now c.args.told.blamed.now c.args.told.again (tree_of c.args.plan.now) c.args.report.now.rows c.deref.result.now
    (c.deref.ensures.value ∙ c.in_ok-rows.ensures))
    c.lines_of.ensures

pub returns-clause-read : goal.returns-clause-read
returns-clause-read c =
    read_back c.lines_of.result c.args.told.fates.now c.args.told.blamed.now c.args.told.again (tree_of c.args.plan.now) (rows_from 1 c.args.report.now.rows)
    (returns-clause-lines c)
