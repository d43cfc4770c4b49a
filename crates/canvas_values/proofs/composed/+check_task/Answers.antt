use Rattle.std.proofs.Common.{rules, map, sym, ap, subst, ◌∙◌}
use Rattle.canvas_values.specs.ComposedRefusals.{tasks_fault}
use Rattle.canvas_values.specs.SignatureView.{task_view, tasks_of}
use Rattle.canvas_values.specs.Writable.{TasksComposed}
use Rattle.canvas_values.proofs.ComposedLemmas.{links_fail, errbacks_decide, on_ok, task_composed}
use Rattle.canvas_values.proofs.composed.+check_task.Goals as goal

pub check_task-returns-in_err-check_tasks-clause-fault : goal.check_task-returns-in_err-check_tasks-clause-fault
check_task-returns-in_err-check_tasks-clause-fault t c =
    let links = c.in_err-check_tasks.ensures.fault ∙ ap (λ xs. tasks_fault (tasks_of (map task_view xs))) (c.deref.ensures.value ∙ c.get.ensures) in
    rw (sym (links_fail c.args.sig.now _ c.in_ok-check_call.ensures.fault links)) (search rules)

pub check_task-returns-clause-fault : goal.check_task-returns-clause-fault
check_task-returns-clause-fault t c =
    let links = c.in_ok-check_tasks.ensures.fault ∙ ap (λ xs. tasks_fault (tasks_of (map task_view xs))) (c.deref.ensures.value ∙ c.get.ensures) in
    c.check_tasks-2.ensures.fault ∙ ap (λ xs. tasks_fault (tasks_of (map task_view xs))) (c.deref-2.ensures.value ∙ c.get-2.ensures)
    ∙ errbacks_decide c.args.sig.now c.in_ok-check_call.ensures.fault links

pub check_task-returns-clause-composed : goal.check_task-returns-clause-composed
check_task-returns-clause-composed t c =
    let links = subst (λ xs. TasksComposed (tasks_of (map task_view xs))) (c.deref.ensures.value ∙ c.get.ensures) c.in_ok-check_tasks.ensures.composed in
    on_ok c.check_tasks-2.result _ _ c.check_tasks-2.ensures.composed
    (λ fits. task_composed c.args.sig.now c.in_ok-check_call.ensures.ordered links
    (subst (λ xs. TasksComposed (tasks_of (map task_view xs))) (c.deref-2.ensures.value ∙ c.get-2.ensures) fits))
