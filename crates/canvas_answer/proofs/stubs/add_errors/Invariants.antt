use Rattle.std.proofs.Common.{◌≡◌, ◌++◌, map, filter_map}
use Rattle.canvas_answer.specs.Stubbing.{error_said, unsaid}
use Rattle.canvas_answer.proofs.stubs.add_errors.Given as goal

-- those before, and of those that are left what is to be added
abbrev pub invariant-loop-error : goal.invariant-loop-error
invariant-loop-error l =
    (map error_said l.answers.errors.items ++ filter_map (unsaid l.fn.answers.stubs.items) (map error_said l.error-iterator.rest.items)
    ≡ map error_said l.fn.answers.errors.items ++ filter_map (unsaid l.fn.answers.stubs.items) (map error_said l.fn.errors.items))
    × (l.answers.stubs ≡ l.fn.answers.stubs) × (l.answers.renames ≡ l.fn.answers.renames)
