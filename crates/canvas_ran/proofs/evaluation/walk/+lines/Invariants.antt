use Rattle.std.proofs.Common.{◌≡◌, ◌++◌, map, drop}
use Rattle.canvas_rewrite.specs.FrozenView.{line_in}
use Rattle.canvas_ran.specs.steps.Flows.{flow_seen}
use Rattle.canvas_ran.specs.steps.Walked.{all_ends, all_states}
use Rattle.canvas_ran.proofs.evaluation.walk.+lines.Given as goal

abbrev pub invariant-push_lines-loop-line : goal.invariant-push_lines-loop-line
invariant-push_lines-loop-line g l =
    (l.found.items ++ all_states (g.T.Tasks.behaviour l.tasks) (map line_in (drop l.line-index l.lines)) (flow_seen l.flow)
    ≡ l.fn.found.items ++ all_states (g.T.Tasks.behaviour l.tasks) (map line_in l.lines) (flow_seen l.flow))
    × (l.ends.items ++ all_ends (g.T.Tasks.behaviour l.tasks) (map line_in (drop l.line-index l.lines)) (flow_seen l.flow)
    ≡ l.fn.ends.items ++ all_ends (g.T.Tasks.behaviour l.tasks) (map line_in l.lines) (flow_seen l.flow))
