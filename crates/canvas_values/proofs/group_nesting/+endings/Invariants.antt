use Rattle.std.proofs.Common.{◌≡◌, false, map, drop}
use Rattle.std.specs.List.{list_all}
use Rattle.canvas_values.specs.steps.Ending.{ending, last_ending, ends_in_task}
use Rattle.canvas_values.specs.SignatureView.{view}
use Rattle.canvas_values.proofs.group_nesting.+endings.Given as goal

abbrev pub invariant-last_ending-loop-node : goal.invariant-last_ending-loop-node
invariant-last_ending-loop-node l = last_ending l.last (map view (drop l.node-index l.nodes)) ≡ last_ending false (map view l.nodes)

abbrev pub invariant-all_end_in_tasks-loop-node : goal.invariant-all_end_in_tasks-loop-node
invariant-all_end_in_tasks-loop-node l =
    list_all (λ n. ends_in_task (ending (view n))) (drop l.node-index l.nodes) ≡ list_all (λ n. ends_in_task (ending (view n))) l.nodes
