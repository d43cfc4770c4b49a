-- The calls of a task, by its fields.
use Rattle.std.proofs.Common.{◌≡◌, ap, ◌∙◌, sym, ◌∷◌, ◌++◌, map, Some}
use Rattle.canvas_values.specs.SignatureView.{task_view, tasks_of}
use Rattle.canvas_values.specs.ComposedRefusals.{its_call}
use Rattle.canvas_values.specs.declared.task_sig.TaskSig.{TaskSig, out-TaskSig}
use Rattle.canvas_values.proofs.Views.{task_seen}
use Rattle.canvas_check.specs.Listed.{task_calls, tasks_calls}

pub calls_are : (s : TaskSig)
    → task_calls (task_view s)
    ≡ Some (its_call (task_view s)) ∷ tasks_calls (tasks_of (map task_view (out-TaskSig s).links))
    ++ tasks_calls (tasks_of (map task_view (out-TaskSig s).errbacks))
calls_are s =
    ap task_calls (task_seen s)
    ∙ ap (λ c. Some c ∷ tasks_calls (tasks_of (map task_view (out-TaskSig s).links))
    ++ tasks_calls (tasks_of (map task_view (out-TaskSig s).errbacks))) (sym (ap its_call (task_seen s)))
