use Rattle.std.proofs.Common.{◌≡◌, ◌++◌, drop}
use Rattle.canvas_semantics.specs.Line.{names}
use Rattle.canvas_values.specs.steps.Tokens.{rest_tokens}
use Rattle.canvas_ran.specs.Calls.{names_wire}
use Rattle.canvas_ran.proofs.calls.lines.write_names.Given as goal

-- the tokens so far, and those of the names still to come
abbrev pub invariant-loop-index : goal.invariant-loop-index
invariant-loop-index l =
    (l.out.tokens ++ rest_tokens (names_wire (drop l.index (names l.plan)))
    ≡ l.fn.out.tokens ++ rest_tokens (names_wire (names l.plan))) × (l.out.before ≡ l.fn.out.before)
