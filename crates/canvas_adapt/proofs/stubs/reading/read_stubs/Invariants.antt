use Rattle.std.proofs.Common.{◌≡◌, drop, map}
use Rattle.canvas_adapt.specs.StubTexts.{stubs_from, stubs_reading}
use Rattle.canvas_adapt.proofs.stubs.reading.read_stubs.Given as goal

-- the texts that are left, read on from the stubs so far, give what all give
abbrev pub invariant-loop-before : goal.invariant-loop-before
invariant-loop-before l =
    stubs_from l.before l.stubs.items (map (λ t. t.now) (drop l.before l.texts)) ≡ stubs_reading
    (map (λ t. t.now) l.texts)
