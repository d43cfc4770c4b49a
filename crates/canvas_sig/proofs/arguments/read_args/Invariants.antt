use Rattle.std.proofs.Common.{◌≡◌, map, drop}
use Rattle.canvas_sig.specs.Datum.{view}
use Rattle.canvas_values.specs.Answers.{in_turn}
use Rattle.canvas_values.specs.Grammar.{arg_reading}
use Rattle.canvas_sig.proofs.Each.{onto}
use Rattle.canvas_sig.proofs.arguments.read_args.Given as goal

abbrev pub invariant-loop-value : goal.invariant-loop-value
invariant-loop-value l = in_turn arg_reading (map view l.values) ≡ onto l.args.items (in_turn arg_reading (map view (drop l.value-index l.values)))
