use Rattle.canvas_envelope.proofs.Written.IdentifierTexts.{task_ascii}
use Rattle.canvas_ran.proofs.calls.lines.write_task_id.Goals as goal

pub write_id-requires : goal.write_id-requires
write_id-requires c = rw c.task_text.ensures.value (task_ascii c.args.task)
