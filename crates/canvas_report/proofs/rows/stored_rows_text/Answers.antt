use Rattle.std.proofs.Common.{◌≡◌, List, ℕ, IfOk, subst, string_bytes}
use Rattle.canvas_semantics.specs.Line.{tree_of}
use Rattle.canvas_report.specs.JsonRows.{parameter_of}
use Rattle.canvas_report.proofs.RowLaws.{rows_written}
use Rattle.canvas_report.proofs.rows.stored_rows_text.Goals as goal

pub returns-clause-json : goal.returns-clause-json
returns-clause-json c = λ at all.
    let P : List ℕ → Type 0 = λ x. IfOk c.lines_of.result (λ text. string_bytes text ≡ x) in
    subst P
    (rows_written c.args.told.fates.now (parameter_of c.args.told.blamed.now) c.args.told.again (tree_of c.args.plan.now) c.args.rows.now at all)
    c.lines_of.ensures
