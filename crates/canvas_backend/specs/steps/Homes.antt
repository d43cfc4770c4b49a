-- What a plan's index keeps of each task, to answer whether it is a member's last: the group or
-- chord that it is in.
use Rattle.std.specs.Prelude.{◌≡◌, ◌==◌, ◌-◌, ℕ, zero, suc, Bool, false, List, [], ◌∷◌, set, slice_get, Option, Some, None}
use Rattle.canvas_history.specs.Roster.{Roster, is_member}

-- what a task has, from 1
abbrev pub home_or : Option (Option ℕ) → Option ℕ
home_or None = None
home_or (Some h) = h

abbrev pub home_at : List (Option ℕ) → ℕ → Option ℕ
home_at homes zero = None
home_at homes (suc k) = home_or (slice_get homes k)

abbrev pub is_home : Option ℕ → ℕ → Bool
is_home None g = false
is_home (Some h) g = h == g

-- each task has the group or chord in which it is the last of a member
abbrev pub AreHomes : Roster → List (Option ℕ) → Type 0
AreHomes plan homes = (g t : ℕ) → is_member plan g t ≡ is_home (home_at homes t) g

-- the group or chord is written at these tasks
abbrev pub moved_in : List (Option ℕ) → ℕ → List ℕ → List (Option ℕ)
moved_in homes g [] = homes
moved_in homes g (t ∷ ts) = moved_in (set homes (t - 1) (Some g)) g ts
