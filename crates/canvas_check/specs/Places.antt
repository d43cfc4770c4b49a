-- The contents of a listing, and what a step appends.
use Rattle.std.specs.Prelude.{◌≡◌, List, ◌++◌, map}
use Rattle.canvas_sig.specs.Datum.{view}
use Rattle.canvas_check.specs.FileOrder.{Sighted, behind}
use Rattle.canvas_check.specs.declared.listing.Place.{Place}
use Rattle.canvas_check.specs.declared.listing.Listing.{Listing}

abbrev pub shown : Place → Sighted
shown p = record { steps = p.steps.items; is_linked = p.is_linked; signature = view p.value.now }

-- these signatures were appended, with the steps to the current one in front
pub record Lists (added : List Sighted) (l l' : Listing) : Type 0 where
  pub places : map shown l'.places.items
      ≡ map shown l.places.items ++ map (behind l.steps.items) added
  pub steps : l'.steps.items ≡ l.steps.items
