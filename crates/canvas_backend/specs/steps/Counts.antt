-- The counts that the plain backend keeps beside its rows.
use Rattle.std.specs.Prelude.{◌≡◌, ◌<◌, ℕ, suc, List, length, slice_index}
use Rattle.canvas_history.specs.Table.{count_of}
use Rattle.canvas_backend.specs.Plain.{PlainView, held}

-- how many members of each group or chord were returned, in the order of their numbers
pub record AreCounts (s : PlainView) (counts : List ℕ) : Type 0 where
  pub many : length counts ≡ length s.plan.groups
  pub are : (g : ℕ) → g < length s.plan.groups
      → slice_index counts g ≡ count_of s.plan (held s) (suc g)
