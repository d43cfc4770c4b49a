use Rattle.std.proofs.Common.{◌≡◌, ◌++◌}
use Rattle.canvas_answer.proofs.stubs.add_stubs.Given as goal

-- those before, and those that are left
abbrev pub invariant-loop-stub : goal.invariant-loop-stub
invariant-loop-stub l =
    (l.answers.stubs.items ++ l.stub-iterator.rest.items ≡ l.fn.answers.stubs.items ++ l.fn.stubs.items)
    × (l.answers.errors ≡ l.fn.answers.errors) × (l.answers.renames ≡ l.fn.answers.renames)
