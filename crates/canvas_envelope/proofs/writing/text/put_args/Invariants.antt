use Rattle.std.proofs.Common.{◌≡◌, ◌++◌, false, drop}
use Rattle.std.specs.Prelude.{string_bytes}
use Rattle.serde_json.specs.Written.{items_text}
use Rattle.canvas_values.specs.Writing.{args_wire}
use Rattle.canvas_envelope.proofs.writing.text.put_args.Given as goal

abbrev pub invariant-loop-arg : goal.invariant-loop-arg
invariant-loop-arg l =
    string_bytes l.out ++ items_text l.later (args_wire (drop l.arg-index l.args)) ≡ string_bytes l.fn.out ++ items_text false (args_wire l.args)
