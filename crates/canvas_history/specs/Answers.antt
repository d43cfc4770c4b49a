-- Calls with their answers, as the entries of a history have them, and the entries of a caller that
-- splits others off and joins them.
use Rattle.std.specs.Prelude.{ℕ, List, [], ◌∷◌}
use Rattle.canvas_history.specs.History.{Entry, split, join, calls}

module _ {C R : Type 0} where
  -- the answered calls of a history, each with its caller
  abbrev pub answered_calls : List (Entry C R) → List (ℕ × (C × R))
  answered_calls [] = []
  answered_calls (split p q ∷ es) = answered_calls es
  answered_calls (join p q ∷ es) = answered_calls es
  answered_calls (calls p c r ∷ es) = (p, (c, r)) ∷ answered_calls es

  -- these calls by the caller p, as entries
  abbrev pub entries_by : ℕ → List (C × R) → List (Entry C R)
  entries_by p [] = []
  entries_by p (x ∷ xs) = calls p x.0 x.1 ∷ entries_by p xs

  -- the entries by which caller 0 splits off these callers, and those by which it joins them
  abbrev pub splits_of : List ℕ → List (Entry C R)
  splits_of [] = []
  splits_of (q ∷ qs) = split 0 q ∷ splits_of qs

  abbrev pub joins_of : List ℕ → List (Entry C R)
  joins_of [] = []
  joins_of (q ∷ qs) = join 0 q ∷ joins_of qs
