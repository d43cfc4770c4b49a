use Rattle.std.proofs.Common.{◌≡◌}
use Rattle.canvas_task.specs.Builtin.{parameters}
use Rattle.canvas_task.specs.Entries.{named}
use Rattle.canvas_check.specs.Parameters.{first_unknown}
use Rattle.canvas_check.proofs.blaming.first_unknown.Given as goal

-- the first of the keywords that are left is that of all
abbrev pub invariant-loop-name : goal.invariant-loop-name
invariant-loop-name l =
    first_unknown (parameters l.task) (named l.kwargs.entries) ≡ first_unknown (parameters l.task) (named l.name-iterator)
