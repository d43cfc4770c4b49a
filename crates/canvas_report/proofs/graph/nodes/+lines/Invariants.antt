use Rattle.std.proofs.Common.{string_bytes, map, drop}
use Rattle.std.specs.Prelude.{option_map}
use Rattle.canvas_task.specs.Text.{Text}
use Rattle.canvas_rewrite.specs.FrozenView.{line_in}
use Rattle.canvas_report.specs.Nodes.{looks}
use Rattle.canvas_report.specs.steps.PieceLists.{Adds, lines_pieces}
use Rattle.canvas_report.proofs.graph.nodes.+lines.Given as goal

-- what the rest adds, all add
abbrev pub invariant-push_members-loop-member : goal.invariant-push_members-loop-member
invariant-push_members-loop-member l =
    let at = looks l.seen.fates.now (option_map (λ rows. rows.now) l.seen.rows) in
    (new : Text) → Adds at (lines_pieces (map line_in (drop l.member-index l.members))) (string_bytes l.text) new
    → Adds at (lines_pieces (map line_in l.members)) (string_bytes l.fn.text) new
