use Rattle.canvas_task.proofs.BuiltinLaw.{builtin_answer}
use Rattle.canvas_task.proofs.laws.law_of_builtin_tasks.Goals as goal

pub returns : goal.returns
returns c = builtin_answer
