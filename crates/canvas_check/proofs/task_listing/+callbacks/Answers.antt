use Rattle.std.proofs.Common.{◌∙◌, ◌++◌, map, refl, ap, sym, Some}
use Rattle.canvas_task.proofs.Turns.{put_on, put_all}
use Rattle.canvas_values.specs.SignatureView.{task_view, tasks_of}
use Rattle.canvas_values.specs.ComposedRefusals.{its_call}
use Rattle.canvas_values.specs.declared.task_sig.TaskSig.{out-TaskSig}
use Rattle.canvas_check.specs.Listed.{call_at, tasks_calls}
use Rattle.canvas_check.proofs.Listed.{calls_are}
use Rattle.canvas_check.proofs.Views.{ok_same, two}
use Rattle.canvas_check.proofs.task_listing.+callbacks.Goals as goal

pub list_task-returns : goal.list_task-returns
list_task-returns t c =
    let sig = out-TaskSig c.args.sig.now in
    let before = map call_at c.args.found.now.tasks.items in
    let call = Some (its_call (task_view c.args.sig.now)) in
    let links = ap (λ ts. tasks_calls (tasks_of (map task_view ts))) (c.deref.ensures.value ∙ c.get.ensures) in
    let errbacks = ap (λ ts. tasks_calls (tasks_of (map task_view ts))) (c.deref-2.ensures.value ∙ c.get-2.ensures) in
    ok_same _ _ (map call_at c.list_tasks.new.found.tasks.items ++ tasks_calls (tasks_of (map task_view c.deref-2.result.now))) _
    (two before call _ _ (tasks_calls (tasks_of (map task_view sig.links))) (tasks_calls (tasks_of (map task_view sig.errbacks)))
    (map call_at c.push.new.self.tasks.items) (map call_at c.list_tasks.new.found.tasks.items)
    c.in_ok-push.ensures c.in_ok-list_tasks.ensures links errbacks
    ∙ ap (λ cs. before ++ cs) (sym (calls_are c.args.sig.now)))
    c.list_tasks-2.ensures

pub list_tasks-loop-sig-preserved : goal.list_tasks-loop-sig-preserved
list_tasks-loop-sig-preserved t c =
    put_on (λ ss. tasks_calls (tasks_of (map task_view ss))) c.args.sigs.now c.loop-sig.sig-index c.sig-item.result _ _ _ _ c.loop-sig-test.true
    c.sig-item.is refl c.loop-sig.invariant c.in_ok-list_task.ensures

pub list_tasks-returns : goal.list_tasks-returns
list_tasks-returns t c =
    put_all (λ ss. tasks_calls (tasks_of (map task_view ss))) c.args.sigs.now c.loop-sig.sig-index _ _ c.loop-sig-test.false refl c.loop-sig.invariant
