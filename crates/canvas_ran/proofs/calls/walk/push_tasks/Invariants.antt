use Rattle.std.proofs.Common.{◌≡◌, ◌++◌, map, drop}
use Rattle.canvas_rewrite.specs.FrozenView.{task_in}
use Rattle.canvas_ran.specs.steps.FrontLists.{front_behind, tasks_fronts_of}
use Rattle.canvas_ran.proofs.calls.walk.push_tasks.Given as goal

abbrev pub invariant-loop-task : goal.invariant-loop-task
invariant-loop-task l =
    (l.found.items ++ tasks_fronts_of l.fates (map task_in (drop l.task-index l.tasks)) l.comes
    ≡ l.fn.found.items ++ tasks_fronts_of l.fates (map task_in l.tasks) l.front)
    × (front_behind l.fates (map task_in (drop l.task-index l.tasks)) l.comes
    ≡ front_behind l.fates (map task_in l.tasks) l.front)
