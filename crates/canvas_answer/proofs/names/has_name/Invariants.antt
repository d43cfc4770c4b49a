use Rattle.std.proofs.Common.{◌≡◌, drop}
use Rattle.canvas_semantics.specs.Line.{names}
use Rattle.canvas_answer.specs.Names.{has_name}
use Rattle.canvas_answer.proofs.names.has_name.Given as goal

-- the names that are left have it where all do
abbrev pub invariant-loop-index : goal.invariant-loop-index
invariant-loop-index l = has_name l.name (drop l.index (names l.plan)) ≡ has_name l.name (names l.plan)
