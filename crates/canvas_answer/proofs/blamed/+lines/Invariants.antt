use Rattle.std.proofs.Common.{◌≡◌, ◌++◌, map, drop}
use Rattle.canvas_rewrite.specs.FrozenView.{line_in}
use Rattle.canvas_answer.specs.Blamed.{blame_said, is_bad_call}
use Rattle.canvas_answer.specs.steps.BlamedLists.{lines_blames_of}
use Rattle.canvas_answer.proofs.blamed.+lines.Given as goal

abbrev pub invariant-push_lines-loop-line : goal.invariant-push_lines-loop-line
invariant-push_lines-loop-line l =
    map blame_said l.found.items
    ++ lines_blames_of l.stubs (is_bad_call l.fates l.report.rows) (map line_in (drop l.line-index l.lines)) l.input
    ≡ map blame_said l.fn.found.items
    ++ lines_blames_of l.stubs (is_bad_call l.fates l.report.rows) (map line_in l.lines) l.input
