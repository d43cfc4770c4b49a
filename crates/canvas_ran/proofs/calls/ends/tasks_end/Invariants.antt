use Rattle.std.proofs.Common.{◌≡◌, map, drop}
use Rattle.canvas_rewrite.specs.FrozenView.{task_in}
use Rattle.canvas_ran.specs.steps.FrontLists.{tasks_end}
use Rattle.canvas_ran.proofs.calls.ends.tasks_end.Given as goal

abbrev pub invariant-loop-task : goal.invariant-loop-task
invariant-loop-task l =
    tasks_end l.fates (map task_in (drop l.task-index l.tasks)) l.ends.items
    ≡ tasks_end l.fates (map task_in l.tasks) l.fn.before.items
