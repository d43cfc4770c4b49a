use Rattle.std.proofs.Common.{◌++◌, string_bytes}
use Rattle.std.specs.Prelude.{codes}
use Rattle.canvas_report.proofs.Pieces.{behind}
use Rattle.canvas_report.proofs.NodeParts.{whole_inside}
use Rattle.canvas_report.proofs.graph.dot.push_quoted.Goals as goal

pub returns : goal.returns
returns c =
    let added = c.in_ok-push_all_escaped.ensures in (
      added.0,
      whole_inside added.0 added.1,
      behind (string_bytes c.args.dot.now) _ _ (codes "\"" ++ added.0) (codes "\"")
          (behind (string_bytes c.args.dot.now) _ _ (codes "\"") added.0 c.in_ok-put.ensures added.2) c.in_ok-put-2.ensures,
    )
