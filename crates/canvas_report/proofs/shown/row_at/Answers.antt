use Rattle.std.proofs.Common.{◌∙◌, ap}
use Rattle.std.specs.Prelude.{unwrap_or, None}
use Rattle.canvas_report.specs.declared.row.Row.TheVariants as row
use Rattle.canvas_report.proofs.RowLines.{row_found}
use Rattle.canvas_report.proofs.shown.row_at.Goals as goal

pub returns : goal.returns
returns c =
    ap (λ o. unwrap_or o (row.Known None)) c.row_in.ensures
    ∙ row_found c.args.rows.now c.args.task c.get.result c.get.ensures.value c.get.ensures.least
