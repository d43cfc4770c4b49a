-- A backend knows all members of its plan's chords.
use Rattle.std.specs.Prelude.{◌≡◌, ◌<◌, ℕ, Bool, true, false, if◌then◌else◌, length, slice_get, Option, Some, None, IsSome, is_some, unwrap_or, refl}
use Rattle.std.proofs.Common.{sym, ap, subst, true≢false}
use Rattle.std.proofs.lemmas.Option.{slice_get-get_or}
use Rattle.canvas_semantics.specs.Line.{GroupEntry, entry_at, entry_members, entry_size}
use Rattle.canvas_history.specs.Roster.{Roster}
use Rattle.canvas_runs.specs.Book.{book_on}
use Rattle.canvas_core.specs.Books.{HasMembers}

in_entry : (t : GroupEntry) (b : Bool) (n i : ℕ)
    → (if b then Some (length t.members) else None) ≡ Some n → i < n
    → IsSome (slice_get t.members i)
in_entry t true n i size low =
    subst (λ x. IsSome x)
    (sym (slice_get-get_or t.members i 0
    (subst (λ m. i < m) (sym (ap (λ x. unwrap_or x 0) size)) low)))
    refl
in_entry t false n i size low = absurd (true≢false (sym (ap is_some size)))

in_any : (t : Option GroupEntry) (n i : ℕ) → entry_size t ≡ Some n → i < n
    → IsSome (slice_get (entry_members t) i)
in_any None n i size low = absurd (true≢false (sym (ap is_some size)))
in_any (Some t) n i size low = in_entry t t.chord n i size low

pub members_in : (r : Roster) → HasMembers (book_on r)
members_in r g n i size low = in_any (entry_at r.groups g) n i size low
