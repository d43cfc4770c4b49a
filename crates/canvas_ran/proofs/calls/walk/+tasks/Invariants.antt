use Rattle.std.proofs.Common.{◌≡◌, ◌++◌, map, drop}
use Rattle.canvas_rewrite.specs.FrozenView.{task_in}
use Rattle.canvas_ran.specs.steps.FrontLists.{callbacks_fronts}
use Rattle.canvas_ran.proofs.calls.walk.+tasks.Given as goal

abbrev pub invariant-push_callbacks-loop-task : goal.invariant-push_callbacks-loop-task
invariant-push_callbacks-loop-task l =
    l.found.items ++ callbacks_fronts l.fates (map task_in (drop l.task-index l.tasks)) l.front
    ≡ l.fn.found.items ++ callbacks_fronts l.fates (map task_in l.tasks) l.front
