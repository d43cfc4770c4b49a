use Rattle.std.proofs.Common.{◌≡◌, map, take, filter_map}
use Rattle.canvas_answer.specs.Stubbing.{numbered}
use Rattle.canvas_answer.proofs.numbers.with_numbers.Given as goal

-- those of the texts before
abbrev pub invariant-loop-text : goal.invariant-loop-text
invariant-loop-text l = map (λ t. t.now) l.found.items ≡ filter_map numbered (map (λ t. t.now) (take l.text-index l.texts))
