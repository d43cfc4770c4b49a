use Rattle.std.proofs.Common.{map, refl}
use Rattle.canvas_task.proofs.Turns.{put_on, put_all}
use Rattle.canvas_values.specs.SignatureView.{view, trees_of}
use Rattle.canvas_check.specs.Listed.{all_calls}
use Rattle.canvas_check.proofs.task_listing.+nodes.Goals as goal

pub list_nodes-loop-node-preserved : goal.list_nodes-loop-node-preserved
list_nodes-loop-node-preserved t c =
    put_on (λ ns. all_calls (trees_of (map view ns))) c.args.nodes.now c.loop-node.node-index c.node-item.result _ _ _ _ c.loop-node-test.true
    c.node-item.is refl c.loop-node.invariant c.in_ok-list_node.ensures

pub list_nodes-returns : goal.list_nodes-returns
list_nodes-returns t c =
    put_all (λ ns. all_calls (trees_of (map view ns))) c.args.nodes.now c.loop-node.node-index _ _ c.loop-node-test.false refl c.loop-node.invariant
