use Rattle.std.proofs.Common.{◌≡◌, ◌∙◌, ◌+◌, arith, rules, map, ap}
use Rattle.canvas_values.specs.SignatureView.{task_view}
use Rattle.canvas_values.specs.declared.task_sig.TaskSig as sig
use Rattle.canvas_values.specs.declared.task_sig.TaskSig.{TaskSig, out-TaskSig}
use Rattle.canvas_semantics.specs.steps.Numbering.{tasks_in}
use Rattle.canvas_adapt.specs.steps.Renaming.{tasks_renamed}
use Rattle.canvas_adapt.proofs.Names.{task_counted, renamed_as}
use Rattle.canvas_adapt.proofs.renaming.+tasks.Goals as goal

pub rename_task-rename_tasks-requires : goal.rename_task-rename_tasks-requires
rename_task-rename_tasks-requires t c =
    let s : TaskSig = c.args.sig.now in
    let links : tasks_in (map task_view c.deref.result.now) ≡ tasks_in (map task_view (out-TaskSig s).links) =
    ap (λ ss. tasks_in (map task_view ss)) (c.deref.ensures.value ∙ c.get.ensures) in
    (search (rules, sig.the_lemmas), omega (arith, links, c.requires.few, task_counted s))

pub rename_task-rename_tasks-requires-2 : goal.rename_task-rename_tasks-requires-2
rename_task-rename_tasks-requires-2 t c =
    let s : TaskSig = c.args.sig.now in
    let links : tasks_in (map task_view c.deref.result.now) ≡ tasks_in (map task_view (out-TaskSig s).links) =
    ap (λ ss. tasks_in (map task_view ss)) (c.deref.ensures.value ∙ c.get.ensures) in
    let errbacks : tasks_in (map task_view c.deref-2.result.now) ≡ tasks_in (map task_view (out-TaskSig s).errbacks) =
    ap (λ ss. tasks_in (map task_view ss)) (c.deref-2.ensures.value ∙ c.get-2.ensures) in
    (search (rules, sig.the_lemmas), omega (arith, links, errbacks, c.in_ok-links.ensures.next, c.requires.few, task_counted s))

pub rename_task-returns-clause-value : goal.rename_task-returns-clause-value
rename_task-returns-clause-value t c =
    let s : TaskSig = c.args.sig.now in
    let links = c.deref.ensures.value ∙ c.get.ensures in
    let errbacks = c.deref-2.ensures.value ∙ c.get-2.ensures in
    renamed_as c.args.renames.now s c.args.next.now _ _ _ _ _ _ c.in_ok-name.ensures c.in_ok-args.ensures c.in_ok-kwargs.ensures
    (ap (map task_view) c.of.ensures ∙ c.in_ok-links.ensures.value
    ∙ ap (λ ss. tasks_renamed c.args.renames.now (c.args.next.now + 1) (map task_view ss)) links)
    (c.in_ok-links.ensures.next ∙ ap (λ ss. c.args.next.now + 1 + tasks_in (map task_view ss)) links)
    (ap (map task_view) c.of-2.ensures ∙ c.in_ok-errbacks.ensures.value
    ∙ ap (λ ss. tasks_renamed c.args.renames.now c.rename_tasks.new.next (map task_view ss)) errbacks)

pub rename_task-returns-clause-next : goal.rename_task-returns-clause-next
rename_task-returns-clause-next t c =
    let s : TaskSig = c.args.sig.now in
    let links : tasks_in (map task_view c.deref.result.now) ≡ tasks_in (map task_view (out-TaskSig s).links) =
    ap (λ ss. tasks_in (map task_view ss)) (c.deref.ensures.value ∙ c.get.ensures) in
    let errbacks : tasks_in (map task_view c.deref-2.result.now) ≡ tasks_in (map task_view (out-TaskSig s).errbacks) =
    ap (λ ss. tasks_in (map task_view ss)) (c.deref-2.ensures.value ∙ c.get-2.ensures) in
    omega (arith, links, errbacks, c.in_ok-links.ensures.next, c.in_ok-errbacks.ensures.next, task_counted s)
