use Rattle.std.proofs.Common.{rules}
use Rattle.canvas_envelope.proofs.Seen.{task_seen}
use Rattle.canvas_envelope.proofs.unplaced.+unplaced.Goals as goal

pub is_unplaced-returns-then-all_unplaced-2 : goal.is_unplaced-returns-then-all_unplaced-2
is_unplaced-returns-then-all_unplaced-2 t c = rw (task_seen c.args.task.now) (search rules)

pub is_unplaced-returns-else-all_unplaced-2 : goal.is_unplaced-returns-else-all_unplaced-2
is_unplaced-returns-else-all_unplaced-2 t c = rw (task_seen c.args.task.now) (search rules)
