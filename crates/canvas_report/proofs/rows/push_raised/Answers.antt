use Rattle.std.proofs.Common.{◌++◌, string_bytes}
use Rattle.std.specs.Prelude.{codes}
use Rattle.json.specs.Print.{quoted}
use Rattle.canvas_report.proofs.Pieces.{behind, last}
use Rattle.canvas_report.proofs.rows.push_raised.Goals as goal

pub returns : goal.returns
returns c =
    let front = codes "{\"exc_message\":[],\"exc_type\":" in
    last _ (string_bytes c.args.text.now) _ _ (front ++ quoted c.args.name.now) (codes "}")
    (behind (string_bytes c.args.text.now) _ _ front (quoted c.args.name.now) c.in_ok-put.ensures c.in_ok-push_quoted.ensures) c.put-2.ensures
