use Rattle.std.proofs.Common.{◌≡◌, ◌++◌, map, drop, option_map}
use Rattle.canvas_rewrite.specs.FrozenView.{task_in}
use Rattle.canvas_ran.specs.steps.Flows.{flow_seen}
use Rattle.canvas_ran.specs.steps.Walked.{callbacks_states}
use Rattle.canvas_ran.proofs.evaluation.walk.+tasks.Given as goal

abbrev pub invariant-push_callbacks-loop-callback : goal.invariant-push_callbacks-loop-callback
invariant-push_callbacks-loop-callback g l =
    l.found.items ++ callbacks_states (g.T.Tasks.behaviour l.tasks) (map task_in (drop l.callback-index l.callbacks)) (option_map (λ x. flow_seen x.now) l.flow)
    ≡ l.fn.found.items ++ callbacks_states (g.T.Tasks.behaviour l.tasks) (map task_in l.callbacks) (option_map (λ x. flow_seen x.now) l.flow)
