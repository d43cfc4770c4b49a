use Rattle.std.proofs.Common.{◌≡◌, drop}
use Rattle.canvas_task.specs.Builtin.{first_called, word}
use Rattle.canvas_task.proofs.builtin.first_of_word.Given as goal

-- the word is found among the tasks that are left as among all
abbrev pub invariant-loop-task : goal.invariant-loop-task
invariant-loop-task l = first_called word l.given (drop l.task-index l.tasks) ≡ first_called word l.given l.tasks
