use Rattle.std.proofs.Common.{refl, ◌∙◌, ◌++◌, ◌∷◌, [], map, ap, sym}
use Rattle.canvas_task.proofs.Turns.{put_on, put_all}
use Rattle.canvas_rewrite.specs.FrozenView.{task_in}
use Rattle.canvas_semantics.specs.Evaluation.{state_of}
use Rattle.canvas_semantics.specs.States.{rows_from}
use Rattle.canvas_ran.specs.Seen.{fate_by}
use Rattle.canvas_ran.specs.steps.SeenLists.{callbacks_seen}
use Rattle.canvas_rewrite.specs.declared.frozen.FrozenTask.{out-FrozenTask}
use Rattle.canvas_rewrite.proofs.PlanLines.{ok_same}
use Rattle.canvas_rewrite.proofs.NameLines.{two}
use Rattle.canvas_ran.proofs.Walks.{task_seen}
use Rattle.canvas_ran.proofs.walk.+tasks.Goals as goal

pub push_task-returns : goal.push_task-returns
push_task-returns t c =
    let task = out-FrozenTask c.args.task.now in
    let before = c.args.found.now.items in
    let rows = rows_from 1 c.args.rows.now in
    let came = c.args.came.now in
    let links = ap (λ ts. callbacks_seen rows (map task_in ts)) (c.deref.ensures.value ∙ c.get.ensures) in
    let errbacks = ap (λ ts. callbacks_seen rows (map task_in ts)) (c.deref-2.ensures.value ∙ c.get-2.ensures) in
    let fate = c.fate.ensures ∙ ap (fate_by came) c.state_in.ensures in
    ok_same _ _ (c.push_callbacks.new.found.items ++ callbacks_seen rows (map task_in c.deref-2.result.now)) _
    (two before (task.no, fate_by came (state_of task.no rows)) _ _ (callbacks_seen rows (map task_in task.links))
    (callbacks_seen rows (map task_in task.errbacks)) c.push.new.self.items c.push_callbacks.new.found.items
    (c.in_ok-push.ensures.items ∙ ap (λ f. before ++ (task.no, f) ∷
    []) fate) c.in_ok-push_callbacks.ensures links errbacks
    ∙ ap (λ ns. before ++ ns) (sym (task_seen rows c.args.task.now came)))
    c.push_callbacks-2.ensures

pub push_callbacks-loop-task-preserved : goal.push_callbacks-loop-task-preserved
push_callbacks-loop-task-preserved t c =
    put_on (λ ts. callbacks_seen (rows_from 1 c.args.rows.now) (map task_in ts)) c.args.tasks.now c.loop-task.task-index c.task-item.result
    _ c.loop-task.found.items c.push_task.new.found.items _
    c.loop-task-test.true c.task-item.is refl c.loop-task.invariant c.in_ok-push_task.ensures

pub push_callbacks-returns : goal.push_callbacks-returns
push_callbacks-returns t c =
    put_all (λ ts. callbacks_seen (rows_from 1 c.args.rows.now) (map task_in ts)) c.args.tasks.now c.loop-task.task-index
    c.loop-task.found.items _ c.loop-task-test.false refl c.loop-task.invariant
