use Rattle.std.proofs.Common.{◌≡◌, map, take}
use Rattle.serde_json.specs.View.{view}
use Rattle.canvas_values.specs.Writing.{number_wire}
use Rattle.canvas_sig.proofs.write.value.number_values.Given as goal

abbrev pub invariant-loop-number : goal.invariant-loop-number
invariant-loop-number l = map view l.values.items ≡ map number_wire (take l.number-index l.numbers)
