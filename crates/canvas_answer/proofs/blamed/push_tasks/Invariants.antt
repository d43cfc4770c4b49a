use Rattle.std.proofs.Common.{◌≡◌, ◌++◌, map, drop}
use Rattle.canvas_rewrite.specs.FrozenView.{task_in}
use Rattle.canvas_answer.specs.Blamed.{blame_said, is_bad_call}
use Rattle.canvas_answer.specs.steps.BlamedLists.{chain_blames, input_after}
use Rattle.canvas_answer.proofs.blamed.push_tasks.Given as goal

abbrev pub invariant-loop-task : goal.invariant-loop-task
invariant-loop-task l =
    (map blame_said l.found.items
    ++ chain_blames l.stubs (is_bad_call l.fates l.report.rows) (map task_in (drop l.task-index l.tasks)) l.comes
    ≡ map blame_said l.fn.found.items
    ++ chain_blames l.stubs (is_bad_call l.fates l.report.rows) (map task_in l.tasks) l.fn.input)
    × (input_after (map task_in (drop l.task-index l.tasks)) l.comes ≡ input_after (map task_in l.tasks) l.fn.input)
