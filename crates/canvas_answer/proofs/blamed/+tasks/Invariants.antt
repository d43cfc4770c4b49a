use Rattle.std.proofs.Common.{◌≡◌, ◌++◌, map, drop}
use Rattle.canvas_rewrite.specs.FrozenView.{task_in}
use Rattle.canvas_answer.specs.Blamed.{blame_said, is_bad_call}
use Rattle.canvas_answer.specs.steps.BlamedLists.{callbacks_blames}
use Rattle.canvas_answer.proofs.blamed.+tasks.Given as goal

abbrev pub invariant-push_callbacks-loop-task : goal.invariant-push_callbacks-loop-task
invariant-push_callbacks-loop-task l =
    map blame_said l.found.items
    ++ callbacks_blames l.stubs (is_bad_call l.fates l.report.rows) (map task_in (drop l.task-index l.tasks)) l.input
    ≡ map blame_said l.fn.found.items
    ++ callbacks_blames l.stubs (is_bad_call l.fates l.report.rows) (map task_in l.tasks) l.input
