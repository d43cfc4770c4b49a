use Rattle.std.proofs.Common.{rules, map, ap, sym, ◌∙◌}
use Rattle.canvas_rewrite.specs.FrozenView.{p_tasks_of, p_task_view, p_end_view}
use Rattle.canvas_envelope.specs.Fits.{tasks_ok, line_ok}
use Rattle.canvas_envelope.proofs.FitLemmas.{some_ok, last_ok, and_then, and_else}
use Rattle.canvas_envelope.proofs.Seen.{task_seen, line_empty, end_some}
use Rattle.canvas_envelope.proofs.fits.forms.+tasks.Goals as goal

pub line_fits-returns-then-tasks_fit : goal.line_fits-returns-then-tasks_fit
line_fits-returns-then-tasks_fit t c =
    and_then c.tasks_fit.result c.end_fits.result _ _ _
    (c.tasks_fit.ensures ∙ ap (λ ts. tasks_ok (p_tasks_of (map p_task_view ts))) (c.deref.ensures.value ∙ c.get.ensures)) c.if-tasks_fit.true
    (c.end_fits.ensures ∙ ap (λ e. line_ok c.args.last (p_end_view e)) c.deref-then-tasks_fit.ensures)
    (some_ok c.args.last c.args.line.now c.in-Some.end c.in-Some.is)

pub line_fits-returns-else-tasks_fit : goal.line_fits-returns-else-tasks_fit
line_fits-returns-else-tasks_fit t c =
    and_else c.tasks_fit.result _ _ _
    (c.tasks_fit.ensures ∙ ap (λ ts. tasks_ok (p_tasks_of (map p_task_view ts))) (c.deref.ensures.value ∙ c.get.ensures)) c.if-tasks_fit.false
    (some_ok c.args.last c.args.line.now c.in-Some.end c.in-Some.is)

pub line_fits-returns-then-tasks_fit-2 : goal.line_fits-returns-then-tasks_fit-2
line_fits-returns-then-tasks_fit-2 t c =
    let tasks = sym (c.deref-in-None.ensures.value ∙ c.get-in-None.ensures) ∙ c.in-Some-split_last.ensures.cases.0 in
    and_then c.tasks_fit-in-Some-split_last.result c.task_fits.result _ _ _ c.tasks_fit-in-Some-split_last.ensures c.if-tasks_fit-2.true
    c.task_fits.ensures (last_ok c.args.last c.args.line.now c.in-None.is c.in-Some-split_last.others.now c.in-Some-split_last.task.now tasks)

pub line_fits-returns-else-tasks_fit-2 : goal.line_fits-returns-else-tasks_fit-2
line_fits-returns-else-tasks_fit-2 t c =
    let tasks = sym (c.deref-in-None.ensures.value ∙ c.get-in-None.ensures) ∙ c.in-Some-split_last.ensures.cases.0 in
    and_else c.tasks_fit-in-Some-split_last.result _ _ _ c.tasks_fit-in-Some-split_last.ensures c.if-tasks_fit-2.false
    (last_ok c.args.last c.args.line.now c.in-None.is c.in-Some-split_last.others.now c.in-Some-split_last.task.now tasks)

pub line_fits-returns-in-None-split_last : goal.line_fits-returns-in-None-split_last
line_fits-returns-in-None-split_last t c =
    sym (ap (line_ok c.args.last)
    (line_empty c.args.line.now c.in-None.is c.deref-in-None.result.now
    (c.deref-in-None.ensures.value ∙ c.get-in-None.ensures) c.in-None-split_last.ensures.cases))

pub task_fits-returns-then-tasks_fit-2 : goal.task_fits-returns-then-tasks_fit-2
task_fits-returns-then-tasks_fit-2 t c = rw (task_seen c.args.task.now) (search rules)

pub task_fits-returns-else-tasks_fit-2 : goal.task_fits-returns-else-tasks_fit-2
task_fits-returns-else-tasks_fit-2 t c = rw (task_seen c.args.task.now) (search rules)

pub end_fits-returns-then-members_fit : goal.end_fits-returns-then-members_fit
end_fits-returns-then-members_fit t c = rw (end_some c.args.end.now c.in-Some.body c.in-Some.is) (search rules)

pub end_fits-returns-else-members_fit : goal.end_fits-returns-else-members_fit
end_fits-returns-else-members_fit t c = rw (end_some c.args.end.now c.in-Some.body c.in-Some.is) (search rules)
