use Rattle.std.proofs.Common.{◌≤◌, ℕ, List, length}
use Rattle.canvas_semantics.specs.PlacedLine.{PLine}
use Rattle.canvas_envelope.specs.steps.Listing.{Listing}
use Rattle.canvas_envelope.proofs.Written.Listing.{from_task}
use Rattle.canvas_envelope.proofs.writing.line.add_all.Given as goal

abbrev pub invariant-loop-left : goal.invariant-loop-left
invariant-loop-left l =
    (l.left ≤ length l.tasks)
    × ((head : List ℕ) (line : PLine) → Listing head l.fn.listed.text.items l.fn.listed.ends.items line
    → Listing head l.listed.text.items l.listed.ends.items (from_task l.tasks l.left line))

abbrev pub decreases-loop-left : goal.decreases-loop-left
decreases-loop-left l = l.left
