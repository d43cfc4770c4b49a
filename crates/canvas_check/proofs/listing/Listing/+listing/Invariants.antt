use Rattle.std.proofs.Common.{◌+◌, ◌*◌, map, drop}
use Rattle.canvas_sig.specs.Datum.{view}
use Rattle.canvas_check.specs.FileOrder.{sighted_within}
use Rattle.canvas_check.proofs.Adding.{Halfway}
use Rattle.canvas_check.proofs.listing.Listing.+listing.Given as goal

abbrev pub decreases-list : goal.decreases-list
decreases-list l = 7 * l.left

abbrev pub decreases-list_at : goal.decreases-list_at
decreases-list_at l = 7 * l.left + 1

abbrev pub decreases-list_all : goal.decreases-list_all
decreases-list_all l = 7 * l.left + 2

abbrev pub decreases-list_one : goal.decreases-list_one
decreases-list_one l = 7 * l.left + 2

abbrev pub decreases-list_one_or_more : goal.decreases-list_one_or_more
decreases-list_one_or_more l = 7 * l.left + 3

abbrev pub decreases-list_some : goal.decreases-list_some
decreases-list_some l = 7 * l.left + 4

abbrev pub decreases-list_kwargs : goal.decreases-list_kwargs
decreases-list_kwargs l = 7 * l.left + 5

abbrev pub decreases-list_inside : goal.decreases-list_inside
decreases-list_inside l = 7 * l.left + 6

abbrev pub invariant-list_all-loop-index : goal.invariant-list_all-loop-index
invariant-list_all-loop-index l =
    Halfway (sighted_within l.left l.is_linked) l.field l.index (map view l.values) (map view (drop l.index l.values)) l.initial.self l.self
