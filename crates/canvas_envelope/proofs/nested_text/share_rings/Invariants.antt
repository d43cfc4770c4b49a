use Rattle.std.proofs.Common.{◌≡◌, ◌++◌, map, drop}
use Rattle.canvas_envelope.specs.SharedTexts.{ring_view}
use Rattle.canvas_envelope.proofs.nested_text.share_rings.Given as goal

abbrev pub invariant-loop-ring : goal.invariant-loop-ring
invariant-loop-ring l =
    map ring_view l.all.items ++ map ring_view (drop l.ring-index l.rings) ≡ map ring_view l.fn.outer.items ++ map ring_view l.rings
