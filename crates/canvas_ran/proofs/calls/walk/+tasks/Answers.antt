use Rattle.std.proofs.Common.{refl, ◌∙◌, ◌++◌, ◌∷◌, [], map, ap, ap₂, sym}
use Rattle.canvas_task.proofs.Turns.{put_on, put_all}
use Rattle.canvas_rewrite.specs.FrozenView.{task_in}
use Rattle.canvas_ran.specs.Fronts.{behind}
use Rattle.canvas_ran.specs.steps.FrontLists.{callbacks_fronts}
use Rattle.canvas_rewrite.specs.declared.frozen.FrozenTask.{out-FrozenTask}
use Rattle.canvas_rewrite.proofs.PlanLines.{ok_same}
use Rattle.canvas_rewrite.proofs.NameLines.{two}
use Rattle.canvas_ran.proofs.Called.Walks.{task_parts}
use Rattle.canvas_ran.proofs.calls.walk.+tasks.Goals as goal

pub push_task-returns : goal.push_task-returns
push_task-returns t c =
    let task = out-FrozenTask c.args.task.now in
    let before = c.args.found.now.items in
    let fates = c.args.fates.now in
    let front = c.args.front.now in
    let own = behind fates task.no front in
    let links = ap₂ (λ ts f. callbacks_fronts fates (map task_in ts) f) (c.deref.ensures.value ∙ c.get.ensures) c.in_ok-behind.ensures in
    let errbacks = ap₂ (λ ts f. callbacks_fronts fates (map task_in ts) f) (c.deref-2.ensures.value ∙ c.get-2.ensures) c.in_ok-behind.ensures in
    ok_same _ _ (c.push_callbacks.new.found.items ++ callbacks_fronts fates (map task_in c.deref-2.result.now) c.in_ok-behind.behind) _
    (two before front _ _ (callbacks_fronts fates (map task_in task.links) own)
    (callbacks_fronts fates (map task_in task.errbacks) own) c.push.new.self.items c.push_callbacks.new.found.items
    (c.in_ok-push.ensures.items ∙ ap (λ f. before ++ f ∷ []) c.in_ok-copy.ensures) c.in_ok-push_callbacks.ensures links errbacks
    ∙ ap (λ ns. before ++ ns) (sym (task_parts fates c.args.task.now front)))
    c.push_callbacks-2.ensures

pub push_callbacks-loop-task-preserved : goal.push_callbacks-loop-task-preserved
push_callbacks-loop-task-preserved t c =
    put_on (λ ts. callbacks_fronts c.args.fates.now (map task_in ts) c.args.front.now) c.args.tasks.now c.loop-task.task-index c.task-item.result
    _ c.loop-task.found.items c.push_task.new.found.items _
    c.loop-task-test.true c.task-item.is refl c.loop-task.invariant c.in_ok-push_task.ensures

pub push_callbacks-returns : goal.push_callbacks-returns
push_callbacks-returns t c =
    put_all (λ ts. callbacks_fronts c.args.fates.now (map task_in ts) c.args.front.now) c.args.tasks.now c.loop-task.task-index
    c.loop-task.found.items _ c.loop-task-test.false refl c.loop-task.invariant
