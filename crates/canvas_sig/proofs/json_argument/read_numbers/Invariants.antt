use Rattle.std.proofs.Common.{◌≡◌, map, drop}
use Rattle.serde_json.specs.View.{view}
use Rattle.canvas_values.specs.Answers.{in_turn}
use Rattle.canvas_values.specs.steps.Reading.{number_reading}
use Rattle.canvas_sig.proofs.Each.{onto}
use Rattle.canvas_sig.proofs.json_argument.read_numbers.Given as goal

abbrev pub invariant-loop-value : goal.invariant-loop-value
invariant-loop-value l = in_turn number_reading (map view l.values) ≡ onto l.numbers.items (in_turn number_reading (map view (drop l.value-index l.values)))
