use Rattle.std.proofs.Common.{◌∙◌, refl}
use Rattle.canvas_task.proofs.Turns.{put_on}
use Rattle.canvas_values.specs.steps.Tokens.{data_tokens, rest_tokens}
use Rattle.canvas_envelope.specs.Wire.{task_id}
use Rattle.canvas_report.specs.JsonRows.{identifiers_wire}
use Rattle.canvas_ran.proofs.calls.lines.write_tasks.Goals as goal

pub loop-task-preserved : goal.loop-task-preserved
loop-task-preserved c = (
  put_on (λ ts. rest_tokens (identifiers_wire ts)) c.args.tasks.now c.loop-task.task-index c.task-item.result
      (data_tokens (task_id c.task-item.result)) c.loop-task.out.tokens c.write_task_id.new.out.tokens _
      c.loop-task-test.true c.task-item.is refl c.loop-task.invariant.0 c.in_ok-write_task_id.ensures.0,
  c.in_ok-write_task_id.ensures.1 ∙ c.loop-task.invariant.1,
)
