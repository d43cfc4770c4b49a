use Rattle.std.proofs.Common.{◌≡◌, ◌+◌, ◌*◌, map, drop}
use Rattle.canvas_sig.specs.Datum.{view}
use Rattle.canvas_values.specs.Answers.{in_turn}
use Rattle.canvas_values.specs.steps.Reading.{task_reading}
use Rattle.canvas_values.specs.SignatureView.{task_view}
use Rattle.canvas_sig.proofs.Each.{onto}
use Rattle.canvas_sig.proofs.reader.+read_task.Given as goal

abbrev pub invariant-read_all_linked-loop-value : goal.invariant-read_all_linked-loop-value
invariant-read_all_linked-loop-value l =
    in_turn (task_reading l.left) (map view l.values)
    ≡ onto (map task_view l.tasks.items) (in_turn (task_reading l.left) (map view (drop l.value-index l.values)))

abbrev pub decreases-read_linked : goal.decreases-read_linked
decreases-read_linked l = 6 * l.left

abbrev pub decreases-read_all_linked : goal.decreases-read_all_linked
decreases-read_all_linked l = 6 * l.left + 1

abbrev pub decreases-read_task : goal.decreases-read_task
decreases-read_task l = 6 * l.left + 4

abbrev pub decreases-read_checked_link : goal.decreases-read_checked_link
decreases-read_checked_link l = 6 * l.left + 5
