use Rattle.std.proofs.Common.{◌++◌, false, string_bytes}
use Rattle.std.specs.Prelude.{codes}
use Rattle.canvas_report.specs.RowTexts.{listed_json, status_text}
use Rattle.canvas_report.proofs.Pieces.{behind, last}
use Rattle.canvas_report.proofs.rows.push_list.Goals as goal

pub returns : goal.returns
returns c =
    let old = string_bytes c.args.text.now in
    let front = codes "\"result\":[" in
    let listed = listed_json false c.args.rows.now c.args.tasks.now in
    let results = behind old _ _ front listed c.in_ok-put.ensures c.in_ok-push_results.ensures in
    last _ old _ _ (front ++ listed ++ codes "]") (status_text c.args.rows.now c.args.tasks.now)
    (behind old _ _ (front ++ listed) (codes "]") results c.in_ok-put-2.ensures) c.push_status.ensures
