use Rattle.std.proofs.Common.{ℕ, ◌<◌, ◌≤◌, get_or}
use Rattle.canvas_semantics.specs.Nesting.{task_nesting}
use Rattle.canvas_values.specs.SignatureView.{task_view}
use Rattle.canvas_values.specs.declared.task_sig.TaskSig.{TaskSig}
use Rattle.canvas_values.proofs.nesting.+task_nests.Given as goal

abbrev pub invariant-tasks_nest_within-loop-sig : goal.invariant-tasks_nest_within-loop-sig
invariant-tasks_nest_within-loop-sig l = (k : ℕ) (s : TaskSig) → k < l.sig-index → task_nesting (task_view (get_or l.sigs k s)) ≤ l.most
