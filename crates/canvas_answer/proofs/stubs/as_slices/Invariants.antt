use Rattle.std.proofs.Common.{◌≡◌, map, take, string_bytes}
use Rattle.canvas_answer.proofs.stubs.as_slices.Given as goal

-- those of the texts before
abbrev pub invariant-loop-text : goal.invariant-loop-text
invariant-loop-text l = map (λ t. t.now) l.slices.items ≡ map string_bytes (take l.text-index l.texts)
