use Rattle.std.proofs.Common.{arith, length, ap}
use Rattle.canvas_celery.proofs.Collected.Lines.{few_lines}
use Rattle.canvas_celery.proofs.results.pieces.count_lines.Goals as goal

pub overflow_add-count : goal.overflow_add-count
overflow_add-count c = omega (arith, few_lines c.args.text.now, ap length c.split_line.ensures.line)
