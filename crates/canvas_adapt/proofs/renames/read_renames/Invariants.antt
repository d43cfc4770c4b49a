use Rattle.std.proofs.Common.{map, take}
use Rattle.canvas_adapt.specs.RenameTexts.{AreRenameTexts}
use Rattle.canvas_adapt.proofs.renames.read_renames.Given as goal

-- the names of the texts before
abbrev pub invariant-loop-before : goal.invariant-loop-before
invariant-loop-before l = AreRenameTexts (map (λ t. t.now) (take l.before l.texts)) l.renames.items
