use Rattle.std.proofs.Common.{◌∙◌, map, ap, refl}
use Rattle.canvas_rewrite.specs.FrozenView.{p_task_view}
use Rattle.canvas_effects.proofs.Copied.{task_copied, task_kept, copied_on}
use Rattle.canvas_effects.proofs.copies.+copy.Goals as goal

pub copy_callbacks-returns-clause-links : goal.copy_callbacks-returns-clause-links
copy_callbacks-returns-clause-links t c =
    ap (map p_task_view) c.of.ensures ∙ c.in_ok-links.ensures ∙ ap (map p_task_view) (c.deref.ensures.value ∙ c.get.ensures)

pub copy_callbacks-returns-clause-errbacks : goal.copy_callbacks-returns-clause-errbacks
copy_callbacks-returns-clause-errbacks t c =
    ap (map p_task_view) c.of-2.ensures ∙ c.in_ok-errbacks.ensures ∙ ap (map p_task_view) (c.deref-2.ensures.value ∙ c.get-2.ensures)

pub copy_task-returns : goal.copy_task-returns
copy_task-returns t c =
    task_copied c.args.task.now _ _ _ _ _ _ _ _ c.in_ok-call.ensures.name c.in_ok-call.ensures.args c.in_ok-call.ensures.kwargs
    c.in_ok-back.ensures.links refl c.in_ok-back.ensures.errbacks refl

pub copy_tasks-loop-task-preserved : goal.copy_tasks-loop-task-preserved
copy_tasks-loop-task-preserved t c =
    copied_on p_task_view c.args.tasks.now c.loop-task.task-index c.task-item.result c.in_ok-copy_task.field-0 _ _ c.loop-task-test.true c.task-item.is
    (task_kept c.task-item.result c.in_ok-copy_task.field-0 c.in_ok-place.place c.in_ok-place.ensures c.in_ok-copy_task.ensures) c.loop-task.invariant
    c.in_ok-push.ensures.items
