use Rattle.std.proofs.Common.{◌≡◌, ◌++◌, map, drop}
use Rattle.canvas_values.specs.SignatureView.{task_view, tasks_of}
use Rattle.canvas_check.specs.Foreseen.{tasks_told}
use Rattle.canvas_check.proofs.walk.+calls.Given as goal

abbrev pub invariant-push_tasks-loop-sig : goal.invariant-push_tasks-loop-sig
invariant-push_tasks-loop-sig g l =
    l.found.items ++ tasks_told (g.T.Tasks.behaviour l.tasks) (tasks_of (map task_view (drop l.sig-index l.sigs))) l.position
    ≡ l.fn.found.items ++ tasks_told (g.T.Tasks.behaviour l.tasks) (tasks_of (map task_view l.sigs)) l.position
