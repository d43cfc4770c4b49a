use Rattle.std.proofs.Common.{◌≡◌, ◌++◌, map, drop}
use Rattle.canvas_values.specs.SignatureView.{task_view, tasks_of}
use Rattle.canvas_check.specs.Listed.{call_at, tasks_calls}
use Rattle.canvas_check.proofs.task_listing.+callbacks.Given as goal

abbrev pub invariant-list_tasks-loop-sig : goal.invariant-list_tasks-loop-sig
invariant-list_tasks-loop-sig l =
    map call_at l.found.tasks.items ++ tasks_calls (tasks_of (map task_view (drop l.sig-index l.sigs)))
    ≡ map call_at l.fn.found.tasks.items ++ tasks_calls (tasks_of (map task_view l.sigs))
