use Rattle.std.proofs.Common.{◌≡◌, ◌+◌, map, drop}
use Rattle.std.specs.List.{prefix_len}
use Rattle.canvas_rewrite.specs.FrozenView.{p_task_view}
use Rattle.canvas_envelope.specs.Unplaced.{is_unplaced}
use Rattle.canvas_envelope.proofs.unplaced.how_many.Given as goal

abbrev pub invariant-loop-before : goal.invariant-loop-before
invariant-loop-before l = prefix_len is_unplaced (map p_task_view l.tasks) ≡ l.before + prefix_len is_unplaced (map p_task_view (drop l.before l.tasks))
