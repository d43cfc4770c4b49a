use Rattle.std.proofs.Common.{◌≡◌, ◌≤◌, ◌+◌, ◌*◌, ◌++◌, map}
use Rattle.canvas_semantics.specs.Tree.{count_task}
use Rattle.canvas_values.specs.SignatureView.{task_view, tasks_of}
use Rattle.canvas_rewrite.specs.FrozenView.{p_task_view}
use Rattle.canvas_rewrite.specs.Utf8.{AreUtf8Tasks}
use Rattle.canvas_semantics.specs.steps.Numbering.{tasks_from, tasks_in}
use Rattle.canvas_rewrite.proofs.numbering.+tasks.Given as goal

abbrev pub decreases-freeze_task : goal.decreases-freeze_task
decreases-freeze_task l = 2 * count_task (task_view l.sig)

abbrev pub decreases-freeze_tasks : goal.decreases-freeze_tasks
decreases-freeze_tasks l = 2 * tasks_in (map task_view l.sigs.items) + 1

abbrev pub invariant-freeze_tasks-loop-sig : goal.invariant-freeze_tasks-loop-sig
invariant-freeze_tasks-loop-sig l =
    (1 ≤ l.next) × (l.fn.next ≤ l.next)
    × (l.next + tasks_in (map task_view l.sig-iterator.rest.items) ≡ l.fn.next + tasks_in (map task_view l.fn.sigs.items))
    × (map p_task_view l.frozen.items ++ tasks_from l.next (map task_view l.sig-iterator.rest.items) ≡ tasks_from l.fn.next (map task_view l.fn.sigs.items))
    × (AreUtf8Tasks (tasks_of (map task_view l.sig-iterator.rest.items))
    → AreUtf8Tasks (tasks_of (map task_view l.fn.sigs.items)))
