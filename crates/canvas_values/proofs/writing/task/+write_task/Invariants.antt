use Rattle.std.proofs.Common.{◌≡◌, ◌++◌, map, drop}
use Rattle.canvas_values.specs.steps.Tokens.{rest_tokens}
use Rattle.canvas_values.specs.SignatureView.{task_view, tasks_of}
use Rattle.canvas_values.specs.Writing.{tasks_wire}
use Rattle.canvas_values.proofs.writing.task.+write_task.Given as goal

abbrev pub invariant-write_tasks-loop-sig : goal.invariant-write_tasks-loop-sig
invariant-write_tasks-loop-sig l =
    (l.out.tokens ++ rest_tokens (tasks_wire (tasks_of (map task_view (drop l.sig-index l.sigs)))) ≡ l.fn.out.tokens
    ++ rest_tokens (tasks_wire (tasks_of (map task_view l.sigs)))) × (l.out.before ≡ l.fn.out.before)
