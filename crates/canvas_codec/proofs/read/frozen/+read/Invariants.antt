use Rattle.std.proofs.Common.{◌≡◌, ◌+◌, ◌*◌, map, drop}
use Rattle.canvas_sig.specs.Datum.{view}
use Rattle.canvas_values.specs.Answers.{in_turn}
use Rattle.canvas_sig.proofs.Each.{onto}
use Rattle.canvas_rewrite.specs.FrozenView.{p_task_view, p_line_view}
use Rattle.canvas_codec.specs.steps.FrozenReading.{link_reading, step_reading, line_reading}
use Rattle.canvas_codec.proofs.read.frozen.+read.Given as goal

abbrev pub invariant-read_all_links-loop-value : goal.invariant-read_all_links-loop-value
invariant-read_all_links-loop-value l =
    in_turn (link_reading l.left) (map view l.values)
    ≡ onto (map p_task_view l.tasks.items) (in_turn (link_reading l.left) (map view (drop l.value-index l.values)))

abbrev pub invariant-read_steps-loop-value : goal.invariant-read_steps-loop-value
invariant-read_steps-loop-value l =
    in_turn (step_reading l.left) (map view l.values)
    ≡ onto (map p_task_view l.tasks.items) (in_turn (step_reading l.left) (map view (drop l.value-index l.values)))

abbrev pub invariant-read_lines-loop-value : goal.invariant-read_lines-loop-value
invariant-read_lines-loop-value l =
    in_turn (line_reading l.left) (map view l.values)
    ≡ onto (map p_line_view l.lines.items) (in_turn (line_reading l.left) (map view (drop l.value-index l.values)))

abbrev pub decreases-read_link : goal.decreases-read_link
decreases-read_link l = 30 * l.left + 0

abbrev pub decreases-read_step : goal.decreases-read_step
decreases-read_step l = 30 * l.left + 1

abbrev pub decreases-read_last : goal.decreases-read_last
decreases-read_last l = 30 * l.left + 2

abbrev pub decreases-read_line : goal.decreases-read_line
decreases-read_line l = 30 * l.left + 3

abbrev pub decreases-read_all_links : goal.decreases-read_all_links
decreases-read_all_links l = 30 * l.left + 4

abbrev pub decreases-read_steps : goal.decreases-read_steps
decreases-read_steps l = 30 * l.left + 5

abbrev pub decreases-read_lines : goal.decreases-read_lines
decreases-read_lines l = 30 * l.left + 6

abbrev pub decreases-read_carried : goal.decreases-read_carried
decreases-read_carried l = 30 * l.left + 10

abbrev pub decreases-read_place : goal.decreases-read_place
decreases-read_place l = 30 * l.left + 12

abbrev pub decreases-read_group : goal.decreases-read_group
decreases-read_group l = 30 * l.left + 15

abbrev pub decreases-read_chord : goal.decreases-read_chord
decreases-read_chord l = 30 * l.left + 16

abbrev pub decreases-read_task : goal.decreases-read_task
decreases-read_task l = 30 * l.left + 17

abbrev pub decreases-read_chain : goal.decreases-read_chain
decreases-read_chain l = 30 * l.left + 20

abbrev pub decreases-read_last_as : goal.decreases-read_last_as
decreases-read_last_as l = 30 * l.left + 22

abbrev pub decreases-read_parts : goal.decreases-read_parts
decreases-read_parts l = 30 * l.left + 11
