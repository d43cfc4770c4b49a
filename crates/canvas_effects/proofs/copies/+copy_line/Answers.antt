use Rattle.std.proofs.Common.{◌∙◌, map, ap}
use Rattle.canvas_rewrite.specs.FrozenView.{p_task_view, p_line_view}
use Rattle.canvas_effects.proofs.Copied.{line_copied, longer_copied, group_copied, chord_copied, copied_on}
use Rattle.canvas_effects.proofs.copies.+copy_line.Goals as goal

pub copy_line-returns-in-None : goal.copy_line-returns-in-None
copy_line-returns-in-None t c =
    line_copied c.args.line.now c.in-None.is _ _ (ap (map p_task_view) c.of-tasks.ensures ∙ c.in_ok-copy_tasks.ensures) (c.deref.ensures.value ∙ c.get.ensures)

pub copy_line-returns-in_ok-tail-in-Some : goal.copy_line-returns-in_ok-tail-in-Some
copy_line-returns-in_ok-tail-in-Some t c =
    longer_copied c.args.line.now c.in-Some.end c.in-Some.is _ _ _ _ _ (ap (map p_task_view) c.of-tasks.ensures ∙ c.in_ok-copy_tasks.ensures)
    (c.deref.ensures.value ∙ c.get.ensures)
    c.deref-in-Some.ensures c.in_ok-end-in-Some.ensures c.in_ok-tail-in-Some.ensures.ok

pub copy_end-returns-in-None : goal.copy_end-returns-in-None
copy_end-returns-in-None t c =
    group_copied c.args.end.now c.in-None.is _ _ (ap (map p_line_view) c.of-members.ensures ∙ c.in_ok-copy_lines.ensures)
    (c.deref.ensures.value ∙ c.get.ensures)

pub copy_end-returns-in_ok-body-in-Some : goal.copy_end-returns-in_ok-body-in-Some
copy_end-returns-in_ok-body-in-Some t c =
    chord_copied c.args.end.now c.in-Some.body c.in-Some.is _ _ _ (ap (map p_line_view) c.of-members.ensures ∙ c.in_ok-copy_lines.ensures)
    (c.deref.ensures.value ∙ c.get.ensures)
    c.in_ok-body-in-Some.ensures

pub copy_lines-loop-line-preserved : goal.copy_lines-loop-line-preserved
copy_lines-loop-line-preserved t c =
    copied_on p_line_view c.args.lines.now c.loop-line.line-index c.line-item.result c.in_ok-copy_line.field-0 _ _ c.loop-line-test.true c.line-item.is
    c.in_ok-copy_line.ensures c.loop-line.invariant c.in_ok-push.ensures.items
