use Rattle.std.proofs.Common.{◌≡◌, ◌++◌}
use Rattle.canvas_task.specs.Entries.{named}
use Rattle.canvas_values.specs.steps.Tokens.{rest_members}
use Rattle.canvas_values.specs.Writing.{kwargs_wire}
use Rattle.canvas_values.proofs.writing.arguments.write_named.Given as goal

abbrev pub invariant-loop-name : goal.invariant-loop-name
invariant-loop-name l =
    (l.out.tokens ++ rest_members (kwargs_wire (named l.name-iterator)) ≡ l.fn.out.tokens ++ rest_members (kwargs_wire (named l.args.entries)))
    × (l.out.before ≡ l.fn.out.before)
