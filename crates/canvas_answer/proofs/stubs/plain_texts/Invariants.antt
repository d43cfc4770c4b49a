use Rattle.std.proofs.Common.{◌≡◌, map, take, string_bytes}
use Rattle.canvas_adapt.specs.Raising.{plain_text}
use Rattle.canvas_answer.proofs.stubs.plain_texts.Given as goal

-- those of the texts before
abbrev pub invariant-loop-text : goal.invariant-loop-text
invariant-loop-text l = map string_bytes l.plain.items ≡ map (plain_text l.stands) (map (λ t. t.now) (take l.text-index l.texts))
