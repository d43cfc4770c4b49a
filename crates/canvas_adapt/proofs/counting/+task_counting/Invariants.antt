use Rattle.std.proofs.Common.{◌≡◌, ◌+◌, map, drop}
use Rattle.canvas_semantics.specs.Tree.{count_tasks}
use Rattle.canvas_values.specs.SignatureView.{task_view, tasks_of}
use Rattle.canvas_adapt.proofs.counting.+task_counting.Given as goal

-- what is left, less those still to come, is what will be left
abbrev pub invariant-left_after_tasks-loop-sig : goal.invariant-left_after_tasks-loop-sig
invariant-left_after_tasks-loop-sig l =
    l.fn.left + count_tasks (tasks_of (map task_view (drop l.sig-index l.sigs))) ≡ l.left + count_tasks (tasks_of (map task_view l.sigs))
