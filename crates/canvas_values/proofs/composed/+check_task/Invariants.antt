use Rattle.std.proofs.Common.{◌≡◌, map, drop}
use Rattle.canvas_values.specs.ComposedRefusals.{tasks_fault}
use Rattle.canvas_values.specs.SignatureView.{task_view, tasks_of}
use Rattle.canvas_values.specs.Writable.{TasksComposed}
use Rattle.canvas_values.proofs.composed.+check_task.Given as goal

abbrev pub invariant-check_tasks-loop-sig : goal.invariant-check_tasks-loop-sig
invariant-check_tasks-loop-sig l = record {
  same : tasks_fault (tasks_of (map task_view l.sigs)) ≡ tasks_fault (tasks_of (map task_view (drop l.sig-index l.sigs)));
  enough : TasksComposed (tasks_of (map task_view (drop l.sig-index l.sigs))) → TasksComposed (tasks_of (map task_view l.sigs));
}
