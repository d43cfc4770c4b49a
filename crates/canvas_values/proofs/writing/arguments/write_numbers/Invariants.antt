use Rattle.std.proofs.Common.{◌≡◌, ◌++◌, drop}
use Rattle.canvas_values.specs.steps.Tokens.{rest_tokens}
use Rattle.canvas_values.specs.Writing.{numbers_wire}
use Rattle.canvas_values.proofs.writing.arguments.write_numbers.Given as goal

abbrev pub invariant-loop-number : goal.invariant-loop-number
invariant-loop-number l =
    (l.out.tokens ++ rest_tokens (numbers_wire (drop l.number-index l.numbers)) ≡ l.fn.out.tokens ++ rest_tokens (numbers_wire l.numbers))
    × (l.out.before ≡ l.fn.out.before)
