use Rattle.std.proofs.Common.{◌-◌}
use Rattle.canvas_celery.proofs.Collected.FilledRows.{put_open}
use Rattle.canvas_celery.proofs.results.completing.put_row.Goals as goal

pub returns-clause-looks : goal.returns-clause-looks
returns-clause-looks c = rw c.get.ensures.value (put_open c.args.rows.now (c.args.task - 1) c.args.row c.requires.open)
