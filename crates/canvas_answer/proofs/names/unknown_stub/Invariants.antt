use Rattle.std.proofs.Common.{◌≡◌, drop}
use Rattle.canvas_semantics.specs.Line.{names}
use Rattle.canvas_answer.specs.Names.{first_unknown}
use Rattle.canvas_answer.proofs.names.unknown_stub.Given as goal

-- of the stubs that are left the first is that of all
abbrev pub invariant-loop-stub : goal.invariant-loop-stub
invariant-loop-stub l = first_unknown (names l.plan) (drop l.stub-index l.stubs) ≡ first_unknown (names l.plan) l.stubs
