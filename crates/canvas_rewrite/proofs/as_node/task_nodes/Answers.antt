use Rattle.std.proofs.Common.{◌∙◌, ap}
use Rattle.canvas_semantics.specs.Tree.{one}
use Rattle.canvas_values.specs.SignatureView.{view, task_view}
use Rattle.canvas_values.proofs.Views.{view-Task}
use Rattle.canvas_rewrite.proofs.MappedLists.{one_more, all_there}
use Rattle.canvas_rewrite.proofs.as_node.task_nodes.Goals as goal

pub loop-sig-preserved : goal.loop-sig-preserved
loop-sig-preserved c =
    one_more view (λ s. one (task_view s)) _ _ c.args.sigs.now c.loop-sig.sig-index _ _ c.loop-sig-test.true c.sig-item.is
    c.in_ok-push.ensures.items (view-Task _ ∙ ap one c.in_ok-copy_sig.ensures) c.loop-sig.invariant

pub returns : goal.returns
returns c = all_there view (λ s. one (task_view s)) _ c.args.sigs.now c.loop-sig.sig-index c.loop-sig-test.false c.loop-sig.invariant
