use Rattle.std.proofs.Common.{◌∙◌, ◌++◌, List, map, ap, sym, refl}
use Rattle.canvas_task.proofs.Turns.{put_all}
use Rattle.canvas_rewrite.specs.declared.frozen.FrozenTask.{FrozenTask}
use Rattle.canvas_rewrite.specs.FrozenView.{task_in}
use Rattle.canvas_rewrite.proofs.PlanLines.{ok_same}
use Rattle.canvas_rewrite.proofs.NameLines.{one_after}
use Rattle.canvas_report.specs.declared.graph.edges.Leads.TheVariants.{Link, Errback}
use Rattle.canvas_report.specs.steps.EdgeLists.{callbacks_edges}
use Rattle.canvas_report.proofs.EdgeParts.{callbacks_next, number_is, task_is}
use Rattle.canvas_report.proofs.graph.edges.+callbacks.Goals as goal

pub push_task-returns : goal.push_task-returns
push_task-returns t c =
    let node = c.node_of-node.ensures ∙ number_is c.args.task.now in
    let links = c.deref.ensures.value ∙ c.get.ensures in
    let errbacks = c.deref-2.ensures.value ∙ c.get-2.ensures in
    ok_same _ _ (c.push_callbacks.new.edges.items ++ callbacks_edges Errback c.node_of-node.result (map task_in c.deref-2.result.now)) _
    (one_after c.args.edges.now.items _ _ _ _ c.push_callbacks.new.edges.items c.in_ok-push_callbacks.ensures
    (λ i. callbacks_edges Link (node i) (map task_in (links i))) (λ i. callbacks_edges Errback (node i) (map task_in (errbacks i)))
    ∙ ap (λ es. c.args.edges.now.items ++ es) (sym (task_is c.args.task.now)))
    c.push_callbacks-2.ensures

pub push_callbacks-loop-callback-init : goal.push_callbacks-loop-callback-init
push_callbacks-loop-callback-init t c = refl

pub push_callbacks-loop-callback-preserved : goal.push_callbacks-loop-callback-preserved
push_callbacks-loop-callback-preserved t c =
    callbacks_next c.args.leads c.args.from c.args.callbacks.now c.loop-callback.callback-index c.callback-item.result c.node_of.result
    c.loop-callback.edges.items c.push_edge.new.edges.items c.push_task.new.edges.items _ c.loop-callback-test.true c.callback-item.is c.node_of.ensures
    c.loop-callback.invariant c.in_ok-push_edge.ensures c.in_ok-push_task.ensures

pub push_callbacks-returns : goal.push_callbacks-returns
push_callbacks-returns t c =
    put_all (λ (us : List FrozenTask). callbacks_edges c.args.leads c.args.from (map task_in us)) c.args.callbacks.now c.loop-callback.callback-index
    c.loop-callback.edges.items _ c.loop-callback-test.false refl c.loop-callback.invariant
