use Rattle.canvas_envelope.proofs.Written.IdentifierTexts.{task_ascii}
use Rattle.canvas_envelope.proofs.writing.text.put_task_text.Goals as goal

pub ascii-requires : goal.ascii-requires
ascii-requires c = rw c.task_text.ensures.value (task_ascii c.args.task)
