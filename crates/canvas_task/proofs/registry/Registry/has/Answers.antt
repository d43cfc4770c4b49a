use Rattle.std.proofs.Common.{◌∙◌, sym}
use Rattle.canvas_task.proofs.Turns.{item_first}
use Rattle.canvas_task.proofs.Lookups.{named_here, named_later, named_nowhere}
use Rattle.canvas_task.proofs.registry.Registry.has.Goals as goal

pub returns-then-is_called : goal.returns-then-is_called
returns-then-is_called g c =
    named_here (λ b. (goal.Task-dyn g (b.vtable, b.value)).called b.value) (λ b. (goal.Task-dyn g (b.vtable, b.value)).answers b.value)
    c.args.name.now c.deref-task-items.result.now c.loop-task.task-index c.task-item.result _
    (item_first _ _ c.task-item.result c.loop-task-test.true c.task-item.is) (sym c.is_called.ensures ∙ c.if-is_called.true) c.loop-task.invariant

pub loop-task-preserved : goal.loop-task-preserved
loop-task-preserved g c =
    named_later (λ b. (goal.Task-dyn g (b.vtable, b.value)).called b.value) (λ b. (goal.Task-dyn g (b.vtable, b.value)).answers b.value)
    c.args.name.now c.deref-task-items.result.now c.loop-task.task-index c.task-item.result _
    (item_first _ _ c.task-item.result c.loop-task-test.true c.task-item.is) (sym c.is_called.ensures ∙ c.if-is_called.false) c.loop-task.invariant

pub returns : goal.returns
returns g c =
    named_nowhere (λ b. (goal.Task-dyn g (b.vtable, b.value)).called b.value) (λ b. (goal.Task-dyn g (b.vtable, b.value)).answers b.value)
    c.args.name.now c.deref-task-items.result.now c.loop-task.task-index _ c.loop-task-test.false c.loop-task.invariant
