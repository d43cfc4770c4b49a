use Rattle.std.proofs.Common.{◌++◌, string_bytes}
use Rattle.std.specs.Prelude.{codes}
use Rattle.canvas_report.specs.Wording.{task_named}
use Rattle.canvas_report.proofs.Pieces.{behind, last}
use Rattle.canvas_report.proofs.wording.push_blamer.Goals as goal

pub returns : goal.returns
returns c =
    let front = codes "ChordError: Dependency " in
    let named = task_named c.args.naming c.args.dep in
    last _ (string_bytes c.args.text.now) _ _ (front ++ named) (codes " raised ")
    (behind (string_bytes c.args.text.now) _ _ front named c.in_ok-put.ensures c.in_ok-push_named.ensures) c.put-2.ensures
