use Rattle.std.proofs.lemmas.Result.{on_ok_weaker}
use Rattle.canvas_core.proofs.core_run.Core.answer.Goals as goal

-- an answer to anything but a take is the same for any tasks
pub returns-in_default : goal.returns-in_default
returns-in_default g c = record {
  ok = on_ok_weaker c.go_on.result (λ same. same (g.T.Tasks.behaviour c.args.tasks.now) (g.B.Book.book c.args.book.now)) c.go_on.ensures.ok;
  err = c.go_on.ensures.err;
  memory = c.go_on.ensures.memory;
}
