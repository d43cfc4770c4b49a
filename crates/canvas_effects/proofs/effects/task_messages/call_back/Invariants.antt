use Rattle.std.proofs.Common.{◌≡◌, ◌++◌, true, map, drop}
use Rattle.canvas_rewrite.specs.FrozenView.{p_tasks_of, p_task_view}
use Rattle.canvas_effects.specs.Carrying.{callbacks_ok}
use Rattle.canvas_effects.specs.Effects.{callbacks, messages_in}
use Rattle.canvas_effects.specs.steps.Walks.{input_seen}
use Rattle.canvas_effects.proofs.effects.task_messages.call_back.Given as goal

abbrev pub invariant-loop-task : goal.invariant-loop-task
invariant-loop-task l =
    (callbacks_ok (p_tasks_of (map p_task_view (drop l.task-index l.tasks))) ≡ true)
    × (l.messages.items ++ messages_in (callbacks (p_tasks_of (map p_task_view (drop l.task-index l.tasks))) (input_seen l.input) l.parent)
    ≡ l.fn.messages.items ++ messages_in (callbacks (p_tasks_of (map p_task_view l.tasks)) (input_seen l.input) l.parent))
