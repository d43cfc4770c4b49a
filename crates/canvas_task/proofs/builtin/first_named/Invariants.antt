use Rattle.std.proofs.Common.{◌≡◌, drop}
use Rattle.canvas_task.specs.Builtin.{first_called, task_name}
use Rattle.canvas_task.proofs.builtin.first_named.Given as goal

-- the name is found among the tasks that are left as among all
abbrev pub invariant-loop-task : goal.invariant-loop-task
invariant-loop-task l = first_called task_name l.name (drop l.task-index l.tasks) ≡ first_called task_name l.name l.tasks
