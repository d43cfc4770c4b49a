use Rattle.std.proofs.Common.{◌≡◌, ◌++◌, None, map, drop}
use Rattle.canvas_rewrite.specs.FrozenView.{task_in}
use Rattle.canvas_ran.specs.steps.Flows.{flow_seen}
use Rattle.canvas_ran.specs.steps.Walked.{flow_behind, front_states, last_end}
use Rattle.canvas_ran.proofs.evaluation.walk.push_tasks.Given as goal

abbrev pub invariant-loop-task : goal.invariant-loop-task
invariant-loop-task g l =
    (l.found.items ++ front_states (g.T.Tasks.behaviour l.tasks) (map task_in (drop l.task-index l.line)) (flow_seen l.comes)
    ≡ l.fn.found.items ++ front_states (g.T.Tasks.behaviour l.tasks) (map task_in l.line) (flow_seen l.fn.flow))
    × (flow_behind (g.T.Tasks.behaviour l.tasks) (map task_in (drop l.task-index l.line)) (flow_seen l.comes)
    ≡ flow_behind (g.T.Tasks.behaviour l.tasks) (map task_in l.line) (flow_seen l.fn.flow))
    × (last_end (g.T.Tasks.behaviour l.tasks) (map task_in (drop l.task-index l.line)) (flow_seen l.comes) l.last
    ≡ last_end (g.T.Tasks.behaviour l.tasks) (map task_in l.line) (flow_seen l.fn.flow) None)
