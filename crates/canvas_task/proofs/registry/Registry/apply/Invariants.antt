use Rattle.std.proofs.Common.{◌≡◌, drop}
use Rattle.canvas_task.specs.Entries.{named}
use Rattle.canvas_task.specs.Tasks.{named_tasks, behaviour_of}
use Rattle.canvas_task.proofs.registry.Registry.apply.Given as goal

-- the tasks that are left answer as all do
abbrev pub invariant-loop-task : goal.invariant-loop-task
invariant-loop-task g l =
    let tasks = named_tasks (λ b. (goal.Task-dyn g (b.vtable, b.value)).called b.value) (λ b. (goal.Task-dyn g (b.vtable, b.value)).answers b.value) in
    behaviour_of (tasks (drop l.task-index l.task-items)) l.name l.args (named l.kwargs.entries) ≡ behaviour_of (tasks l.self.tasks.items) l.name l.args
    (named l.kwargs.entries)
