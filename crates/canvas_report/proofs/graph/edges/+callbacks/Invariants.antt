use Rattle.std.proofs.Common.{◌≡◌, ◌++◌, map, drop}
use Rattle.canvas_rewrite.specs.FrozenView.{task_in}
use Rattle.canvas_report.specs.steps.EdgeLists.{callbacks_edges}
use Rattle.canvas_report.proofs.graph.edges.+callbacks.Given as goal

abbrev pub invariant-push_callbacks-loop-callback : goal.invariant-push_callbacks-loop-callback
invariant-push_callbacks-loop-callback l =
    l.edges.items ++ callbacks_edges l.leads l.from (map task_in (drop l.callback-index l.callbacks))
    ≡ l.fn.edges.items ++ callbacks_edges l.leads l.from (map task_in l.callbacks)
