use Rattle.std.proofs.Common.{◌≡◌, map, drop}
use Rattle.std.specs.List.{list_all}
use Rattle.canvas_sig.specs.Datum.{view}
use Rattle.canvas_values.specs.Fields.{is_number}
use Rattle.canvas_sig.proofs.arguments.all_numbers.Given as goal

abbrev pub invariant-loop-value : goal.invariant-loop-value
invariant-loop-value l = list_all is_number (map view l.values) ≡ list_all is_number (map view (drop l.value-index l.values))
