use Rattle.std.proofs.Common.{◌∙◌, ◌++◌, map, ap, sym}
use Rattle.canvas_rewrite.specs.FrozenView.{task_in}
use Rattle.canvas_semantics.specs.steps.Numbering.{tasks_all_names}
use Rattle.canvas_rewrite.specs.declared.frozen.FrozenTask.{out-FrozenTask}
use Rattle.canvas_rewrite.proofs.PlanLines.{ok_same}
use Rattle.canvas_rewrite.proofs.NameLines.{task_named, two}
use Rattle.canvas_rewrite.proofs.names.+task_names.Goals as goal

pub push_task-returns : goal.push_task-returns
push_task-returns t c =
    let task = out-FrozenTask c.args.task.now in
    let before = c.args.found.now in
    let links = ap (λ ts. tasks_all_names (map task_in ts)) (c.deref.ensures.value ∙ c.get.ensures) in
    let errbacks = ap (λ ts. tasks_all_names (map task_in ts)) (c.deref-2.ensures.value ∙ c.get-2.ensures) in
    ok_same _ _ (c.push_tasks.new.found ++ tasks_all_names (map task_in c.deref-2.result.now)) _
    (two before task.name _ _ (tasks_all_names (map task_in task.links))
    (tasks_all_names (map task_in task.errbacks)) c.push.new.self c.push_tasks.new.found
    c.in_ok-push.ensures c.in_ok-push_tasks.ensures links errbacks
    ∙ ap (λ ns. before ++ ns) (sym (task_named c.args.task.now)))
    c.push_tasks-2.ensures
