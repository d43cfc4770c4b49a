use Rattle.std.proofs.Common.{◌∙◌, ◌++◌, ◌∷◌, [], map, ap, sym}
use Rattle.std.specs.Option.{option_map}
use Rattle.canvas_rewrite.specs.FrozenView.{task_in}
use Rattle.canvas_semantics.specs.Evaluation.{state, to_links, to_errbacks}
use Rattle.canvas_rewrite.specs.declared.frozen.FrozenTask.{out-FrozenTask}
use Rattle.canvas_rewrite.proofs.NameLines.{two}
use Rattle.canvas_ran.specs.steps.Flows.{flow_seen}
use Rattle.canvas_ran.specs.steps.Walked.{callbacks_states}
use Rattle.canvas_ran.proofs.Evaluated.Walks.{call_of, own_found, task_found, through}
use Rattle.canvas_ran.proofs.evaluation.walk.+tasks.Goals as goal

pub push_task-returns-clause-pushed : goal.push_task-returns-clause-pushed
push_task-returns-clause-pushed g t c =
    let b = g.T.Tasks.behaviour c.args.tasks.now in
    let task = out-FrozenTask c.args.task.now in
    let before = c.args.found.now.items in
    let x = option_map (λ y. flow_seen y.now) c.args.flow in
    let s = state b (call_of c.args.task.now) x in
    let is = c.in_ok-state.ensures ∙ own_found b c.args.task.now x in
    let linked = through c.as_ref.result (λ y. y.now) flow_seen ∙ ap (option_map flow_seen) c.as_ref.ensures.value
    ∙ c.to_links-linked.ensures ∙ ap to_links is in
    let back = through c.as_ref-2.result (λ y. y.now) flow_seen ∙ ap (option_map flow_seen) c.as_ref-2.ensures.value ∙ c.to_errbacks-back.ensures
    ∙ ap (to_errbacks task.no x) is in
    let of_links = c.deref.ensures.value ∙ c.get.ensures in
    let of_errbacks = c.deref-2.ensures.value ∙ c.get-2.ensures in
    c.in_ok-push_callbacks-2.ensures
    ∙ two before s _ _ (callbacks_states b (map task_in task.links) (to_links s)) (callbacks_states b (map task_in task.errbacks) (to_errbacks task.no x s))
    c.push.new.self.items c.push_callbacks.new.found.items
    (c.in_ok-push.ensures.items ∙ ap (λ z. before ++ z ∷ []) is) c.in_ok-push_callbacks.ensures
    (λ i. callbacks_states b (map task_in (of_links i)) (linked i))
    (λ i. callbacks_states b (map task_in (of_errbacks i)) (back i))
    ∙ ap (λ ss. before ++ ss) (sym (task_found b c.args.task.now x))
