use Rattle.std.proofs.Common.{◌≡◌, ◌++◌, List, map, take, filter_map}
use Rattle.canvas_adapt.specs.declared.renames.Rename.{Rename}
use Rattle.canvas_adapt.specs.Raising.{other_error}
use Rattle.canvas_adapt.specs.declared.stubs.stub.Stub.{Stub}
use Rattle.canvas_answer.specs.Stubbing.{AreNumbered, error_said}
use Rattle.canvas_answer.proofs.numbers.add_numbers.Given as goal

-- what the texts before have added
abbrev pub invariant-loop-text : goal.invariant-loop-text
invariant-loop-text l =
    (rs : List Rename) × (ss : List Stub) × AreNumbered l.stands (map (λ t. t.now) (take l.text-index l.texts)) rs ss
    × (l.answers.renames.items ≡ l.fn.answers.renames.items ++ rs)
    × (l.answers.stubs.items ≡ l.fn.answers.stubs.items ++ ss)
    × (map error_said l.answers.errors.items
    ≡ map error_said l.fn.answers.errors.items ++ filter_map other_error (map (λ t. t.now) (take l.text-index l.texts)))
