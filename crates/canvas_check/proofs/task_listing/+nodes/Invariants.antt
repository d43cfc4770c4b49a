use Rattle.std.proofs.Common.{◌≡◌, ◌++◌, map, drop}
use Rattle.canvas_values.specs.SignatureView.{view, trees_of}
use Rattle.canvas_check.specs.Listed.{call_at, all_calls}
use Rattle.canvas_check.proofs.task_listing.+nodes.Given as goal

abbrev pub invariant-list_nodes-loop-node : goal.invariant-list_nodes-loop-node
invariant-list_nodes-loop-node l =
    map call_at l.found.tasks.items ++ all_calls (trees_of (map view (drop l.node-index l.nodes)))
    ≡ map call_at l.fn.found.tasks.items ++ all_calls (trees_of (map view l.nodes))
