use Rattle.std.proofs.Common.{◌∙◌, ◌++◌, ◌∷◌, [], List, map, refl, ap, sym}
use Rattle.canvas_task.proofs.Turns.{put_on, put_all}
use Rattle.canvas_values.specs.SignatureView.{task_view, tasks_of}
use Rattle.canvas_values.specs.ComposedRefusals.{its_call}
use Rattle.canvas_values.specs.declared.task_sig.TaskSig.{TaskSig, out-TaskSig}
use Rattle.canvas_check.specs.Calls.{expected}
use Rattle.canvas_check.specs.Positions.{of_callback}
use Rattle.canvas_check.specs.Foreseen.{of_task, tasks_told, tasks_count}
use Rattle.canvas_check.specs.declared.forecast.Forecast.{Forecast}
use Rattle.canvas_check.specs.declared.position.Position.{Position}
use Rattle.canvas_check.specs.declared.position.Input.TheVariants.{Number, Identifier}
use Rattle.canvas_check.proofs.Views.{ok_same, task_is, two}
use Rattle.canvas_check.proofs.walk.+calls.Goals as goal

pub push_task-returns : goal.push_task-returns
push_task-returns g t c =
    let sig = out-TaskSig c.args.sig.now in
    let before = c.args.found.now.items in
    let tasks = g.T.Tasks.behaviour c.args.tasks.now in
    let errbacks = tasks_of (map task_view sig.errbacks) in
    let call = of_task (expected tasks (its_call (task_view c.args.sig.now)) c.args.position.input) (tasks_count errbacks) c.args.position in
    let counted = c.count_tasks.ensures ∙ ap (λ ts. tasks_count (tasks_of (map task_view ts))) (c.deref.ensures.value ∙ c.get.ensures) in
    let told = c.of_task.ensures ∙ (λ i. of_task (c.in_ok-call.ensures i) (counted i) c.args.position) in
    let T : List TaskSig → Position → List Forecast = λ ts s. tasks_told tasks (tasks_of (map task_view ts)) s in
    ok_same _ _ (c.push_tasks.new.found.items ++ T c.deref-3.result.now c.of_callback-2.result) _
    (two before call _ _ (T sig.links (of_callback Number)) (T sig.errbacks (of_callback Identifier)) c.push.new.self.items c.push_tasks.new.found.items
    (c.in_ok-push.ensures.items ∙ ap (λ f. before ++ f ∷ []) told) c.in_ok-push_tasks.ensures
    (λ i. T ((c.deref-2.ensures.value ∙ c.get-2.ensures) i) (c.of_callback.ensures i))
    (λ i. T ((c.deref-3.ensures.value ∙ c.get-3.ensures) i) (c.of_callback-2.ensures i))
    ∙ ap (λ fs. before ++ fs) (sym (task_is tasks c.args.sig.now c.args.position)))
    c.push_tasks-2.ensures

pub push_tasks-loop-sig-preserved : goal.push_tasks-loop-sig-preserved
push_tasks-loop-sig-preserved g t c =
    put_on (λ ss. tasks_told (g.T.Tasks.behaviour c.args.tasks.now) (tasks_of (map task_view ss)) c.args.position)
    c.args.sigs.now c.loop-sig.sig-index c.sig-item.result _ _ _ _ c.loop-sig-test.true c.sig-item.is refl c.loop-sig.invariant c.in_ok-push_task.ensures

pub push_tasks-returns : goal.push_tasks-returns
push_tasks-returns g t c =
    put_all (λ ss. tasks_told (g.T.Tasks.behaviour c.args.tasks.now) (tasks_of (map task_view ss)) c.args.position)
    c.args.sigs.now c.loop-sig.sig-index _ _ c.loop-sig-test.false refl c.loop-sig.invariant
