use Rattle.std.proofs.Common.{refl, ◌∙◌, ◌++◌, map, ap, sym}
use Rattle.canvas_task.proofs.Turns.{put_on, put_all}
use Rattle.canvas_rewrite.specs.FrozenView.{task_in}
use Rattle.canvas_rewrite.specs.declared.frozen.FrozenTask.{out-FrozenTask}
use Rattle.canvas_rewrite.proofs.PlanLines.{ok_same}
use Rattle.canvas_check.specs.declared.position.Input.TheVariants.{Number, Identifier}
use Rattle.canvas_answer.specs.Blamed.{blame_said, is_bad_call, own_blames}
use Rattle.canvas_answer.specs.steps.BlamedLists.{call_in, callbacks_blames}
use Rattle.canvas_answer.proofs.Blaming.{task_parts, three}
use Rattle.canvas_answer.proofs.blamed.+tasks.Goals as goal

pub push_task-returns : goal.push_task-returns
push_task-returns t c =
    let task = out-FrozenTask c.args.task.now in
    let stubs = c.args.stubs.now in
    let is_bad = is_bad_call c.args.fates.now c.args.report.now.rows in
    let before = map blame_said c.args.found.now.items in
    let links = ap (λ ts. callbacks_blames stubs is_bad (map task_in ts) Number) (c.deref.ensures.value ∙ c.get.ensures) in
    let errbacks = ap (λ ts. callbacks_blames stubs is_bad (map task_in ts) Identifier) (c.deref-2.ensures.value ∙ c.get-2.ensures) in
    ok_same _ _ (map blame_said c.push_callbacks.new.found.items ++ callbacks_blames stubs is_bad (map task_in c.deref-2.result.now) Identifier) _
    (three before (own_blames stubs is_bad task.no (call_in (task_in c.args.task.now)) c.args.input) _ _ _ _
    (map blame_said c.push_own.new.found.items) (map blame_said c.push_callbacks.new.found.items)
    c.in_ok-push_own.ensures c.in_ok-push_callbacks.ensures links errbacks
    ∙ ap (λ ns. before ++ ns) (sym (task_parts stubs is_bad c.args.task.now c.args.input)))
    c.push_callbacks-2.ensures

pub push_callbacks-loop-task-preserved : goal.push_callbacks-loop-task-preserved
push_callbacks-loop-task-preserved t c =
    put_on (λ ts. callbacks_blames c.args.stubs.now (is_bad_call c.args.fates.now c.args.report.now.rows) (map task_in ts) c.args.input)
    c.args.tasks.now c.loop-task.task-index c.task-item.result
    _ (map blame_said c.loop-task.found.items) (map blame_said c.push_task.new.found.items) _
    c.loop-task-test.true c.task-item.is refl c.loop-task.invariant c.in_ok-push_task.ensures

pub push_callbacks-returns : goal.push_callbacks-returns
push_callbacks-returns t c =
    put_all (λ ts. callbacks_blames c.args.stubs.now (is_bad_call c.args.fates.now c.args.report.now.rows) (map task_in ts) c.args.input)
    c.args.tasks.now c.loop-task.task-index
    (map blame_said c.loop-task.found.items) _ c.loop-task-test.false refl c.loop-task.invariant
