use Rattle.std.proofs.Common.{◌≡◌, ◌∙◌, refl, arith, map, ap, subst}
use Rattle.canvas_values.specs.SignatureView.{task_view, tasks_of}
use Rattle.canvas_values.specs.declared.task_sig.TaskSig.{TaskSig, out-TaskSig}
use Rattle.canvas_semantics.specs.steps.Numbering.{tasks_in}
use Rattle.canvas_rewrite.specs.Utf8.{AreUtf8Tasks}
use Rattle.canvas_rewrite.proofs.FrozenViews.{task_counted, made_as}
use Rattle.canvas_rewrite.proofs.Utf8Lines.{task_read}
use Rattle.canvas_rewrite.proofs.numbering.+tasks.Goals as goal

pub freeze_task-freeze_tasks-requires : goal.freeze_task-freeze_tasks-requires
freeze_task-freeze_tasks-requires t c =
    let s : TaskSig = c.args.sig in
    let same : tasks_in (map task_view c.into_plain.result.items) ≡ tasks_in (map task_view (out-TaskSig s).links) =
    ap (λ ss. tasks_in (map task_view ss)) c.into_plain.ensures in
    (omega (arith, same, task_counted s), (omega arith, omega (arith, same, c.requires.few, task_counted s)))

pub freeze_task-freeze_tasks-requires-2 : goal.freeze_task-freeze_tasks-requires-2
freeze_task-freeze_tasks-requires-2 t c =
    let s : TaskSig = c.args.sig in
    let same : tasks_in (map task_view c.into_plain.result.items) ≡ tasks_in (map task_view (out-TaskSig s).links) =
    ap (λ ss. tasks_in (map task_view ss)) c.into_plain.ensures in
    let same_too : tasks_in (map task_view c.into_plain-2.result.items) ≡ tasks_in (map task_view (out-TaskSig s).errbacks) =
    ap (λ ss. tasks_in (map task_view ss)) c.into_plain-2.ensures in (
      omega (arith, same_too, task_counted s),
      (omega (arith, c.in_ok-links.ensures.next), omega (arith, same, same_too, c.in_ok-links.ensures.next, c.requires.few, task_counted s)),
    )

pub freeze_task-returns-clause-value : goal.freeze_task-returns-clause-value
freeze_task-returns-clause-value t c =
    made_as c.args.sig _ _ _ _ _ _ _ _ _ _ c.task_no-no.ensures refl refl refl
    (ap (map _) c.of.ensures ∙ c.in_ok-links.ensures.value) c.into_plain.ensures c.in_ok-links.ensures.next
    (ap (map _) c.of-2.ensures ∙ c.in_ok-errbacks.ensures.value) c.into_plain-2.ensures

pub freeze_task-returns-clause-utf8 : goal.freeze_task-returns-clause-utf8
freeze_task-returns-clause-utf8 t c =
    task_read c.args.sig c.read_call.ensures
    (subst (λ ss. AreUtf8Tasks (tasks_of (map task_view ss))) c.into_plain.ensures
    c.in_ok-links.ensures.utf8)
    (subst (λ ss. AreUtf8Tasks (tasks_of (map task_view ss))) c.into_plain-2.ensures
    c.in_ok-errbacks.ensures.utf8)
