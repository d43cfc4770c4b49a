use Rattle.std.proofs.Common.{◌≡◌, ◌+◌, ◌*◌, map, drop}
use Rattle.canvas_sig.specs.Datum.{view}
use Rattle.canvas_values.specs.Answers.{in_turn}
use Rattle.canvas_values.specs.steps.Reading.{tree_reading}
use Rattle.canvas_values.specs.SignatureView.{view as tree_view}
use Rattle.canvas_sig.proofs.Each.{onto}
use Rattle.canvas_sig.proofs.reader.+read_node.Given as goal

abbrev pub invariant-read_all-loop-value : goal.invariant-read_all-loop-value
invariant-read_all-loop-value l =
    in_turn (tree_reading l.left) (map view l.values)
    ≡ onto (map tree_view l.nodes.items) (in_turn (tree_reading l.left) (map view (drop l.value-index l.values)))

abbrev pub decreases-read_node : goal.decreases-read_node
decreases-read_node l = 9 * l.left

abbrev pub decreases-read_all : goal.decreases-read_all
decreases-read_all l = 9 * l.left + 1

abbrev pub decreases-read_header : goal.decreases-read_header
decreases-read_header l = 9 * l.left + 3

abbrev pub decreases-read_chain : goal.decreases-read_chain
decreases-read_chain l = 9 * l.left + 4

abbrev pub decreases-read_group : goal.decreases-read_group
decreases-read_group l = 9 * l.left + 5

abbrev pub decreases-read_chord : goal.decreases-read_chord
decreases-read_chord l = 9 * l.left + 6

abbrev pub decreases-read_as : goal.decreases-read_as
decreases-read_as l = 9 * l.left + 7

abbrev pub decreases-read_checked : goal.decreases-read_checked
decreases-read_checked l = 9 * l.left + 8
