use Rattle.canvas_report.proofs.Identifiers.{task_ascii}
use Rattle.canvas_report.proofs.report_rows.push_identifier.Goals as goal

pub as_text-requires : goal.as_text-requires
as_text-requires c = rw c.task_text.ensures.value (task_ascii c.args.task)
