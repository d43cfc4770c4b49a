-- Only bytes of the item were read so far, of which the first are kept.
use Rattle.std.proofs.Common.{◌≡◌, ◌≢◌, ℕ, List, All, take}
use Rattle.std.specs.Io.KnownBytes.{Consumes}
use Rattle.canvas_answer.specs.Items.{most_item}
use Rattle.canvas_answer.proofs.items.next_item.Given as goal

abbrev pub invariant-loop : goal.invariant-loop
invariant-loop g l =
    (done : List ℕ) × All (λ x. x ≢ l.end) done × (l.item.items ≡ take most_item done)
    × Consumes (g.B.Read.remaining l.initial.reader) (g.B.Read.remaining l.reader) done
