use Rattle.std.proofs.Common.{◌≡◌, ◌++◌, false, drop}
use Rattle.std.specs.Prelude.{string_bytes}
use Rattle.serde_json.specs.Written.{items_text}
use Rattle.canvas_values.specs.Writing.{numbers_wire}
use Rattle.canvas_envelope.proofs.writing.text.put_numbers.Given as goal

abbrev pub invariant-loop-number : goal.invariant-loop-number
invariant-loop-number l =
    string_bytes l.out ++ items_text l.later (numbers_wire (drop l.number-index l.numbers)) ≡ string_bytes l.fn.out ++ items_text false (numbers_wire l.numbers)
