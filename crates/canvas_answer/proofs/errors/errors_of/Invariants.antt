use Rattle.std.proofs.Common.{◌≡◌, map, take, filter_map}
use Rattle.canvas_adapt.specs.Raising.{other_error}
use Rattle.canvas_answer.specs.Stubbing.{error_said}
use Rattle.canvas_answer.proofs.errors.errors_of.Given as goal

-- those of the texts before
abbrev pub invariant-loop-text : goal.invariant-loop-text
invariant-loop-text l = map error_said l.errors.items ≡ filter_map other_error (map (λ t. t.now) (take l.text-index l.texts))
