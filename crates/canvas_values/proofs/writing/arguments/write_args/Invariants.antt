use Rattle.std.proofs.Common.{◌≡◌, ◌++◌, drop}
use Rattle.canvas_values.specs.steps.Tokens.{rest_tokens}
use Rattle.canvas_values.specs.Writing.{args_wire}
use Rattle.canvas_values.proofs.writing.arguments.write_args.Given as goal

abbrev pub invariant-loop-arg : goal.invariant-loop-arg
invariant-loop-arg l =
    (l.out.tokens ++ rest_tokens (args_wire (drop l.arg-index l.args)) ≡ l.fn.out.tokens ++ rest_tokens (args_wire l.args)) × (l.out.before ≡ l.fn.out.before)
