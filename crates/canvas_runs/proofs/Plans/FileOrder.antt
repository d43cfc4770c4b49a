-- Lines whose tasks are numbered in the order of the file, and messages that can come of such lines.
use Rattle.std.specs.Prelude.{ℕ, suc, ◌<◌, ◌≤◌, ◌≡◌, Bool, true, false, List, length, Option, Some, None}
use Rattle.canvas_history.specs.Lists.{In, Each}
use Rattle.canvas_semantics.specs.FileOrder.{TaskIn, TasksIn, EndsInTask}
use Rattle.canvas_semantics.specs.Line.{Line, stop, step, group_end, chord_end, Lines, no_lines, and_line}
use Rattle.canvas_runs.proofs.Plans.Messages.{Place, nowhere, in_group, in_chord, Carried, carried, last_from, lasts, Message}

module _ (members : ℕ → List ℕ) where
  abbrev mutual
    pub LineIn : Line → ℕ → ℕ → Type 0
    LineIn stop low high = low ≤ high
    LineIn (step t rest) low high = (middle : ℕ) × TaskIn t low middle × LineIn rest middle high
    LineIn (group_end g ms) low high = LinesIn ms low high × (members g ≡ lasts ms)
    LineIn (chord_end g ms body) low high = (middle : ℕ) × LinesIn ms low middle × LineIn body middle high × (members g ≡ lasts ms)

    pub LinesIn : Lines → ℕ → ℕ → Type 0
    LinesIn no_lines low high = low ≤ high
    LinesIn (and_line m ms) low high = (middle : ℕ) × LineIn m low middle × EndsInTask false m × LinesIn ms middle high

  -- a line after task t whose end goes to a group or chord ends in one of its members' last tasks
  abbrev pub Lands : Place → Bool → ℕ → Line → Type 0
  Lands nowhere behind t l = Unit
  Lands (in_group g) behind t l = EndsInTask behind l × In (last_from t l) (members g)
  Lands (in_chord g c) behind t l = EndsInTask behind l × In (last_from t l) (members g)

  -- by the first number past the plan's tasks
  module _ (limit : ℕ) where
    -- what follows a place is numbered from a bound on
    abbrev mutual
      pub PlaceIn : Place → ℕ → Type 0
      PlaceIn nowhere low = Unit
      PlaceIn (in_group g) low = Unit
      PlaceIn (in_chord g c) low = CarriedIn c g low

      pub CarriedIn : Carried → ℕ → ℕ → Type 0
      CarriedIn (carried n body q) g low =
          (from : ℕ) × (upto : ℕ) × (low ≤ from) × (upto ≤ limit) × Each (λ u. u < from) (members g) × (n ≡ length (members g)) × LineIn body from upto
          × PlaceIn q upto × Lands q false 0 body

    -- none, or one of the plan's tasks
    abbrev pub ParentIn : Option ℕ → Type 0
    ParentIn None = Unit
    ParentIn (Some k) = (1 ≤ k) × (k < limit)

    abbrev pub Formed : Message → Type 0
    Formed m =
        (a : ℕ) × (b : ℕ) × (c : ℕ) × ((1 ≤ m.no) × ParentIn m.parent) × (c ≤ limit) × TasksIn m.links (suc m.no) a × TasksIn m.errbacks a b × LineIn m.rest b c
        × PlaceIn m.place c × Lands m.place true m.no m.rest

    abbrev pub FormedPart : ℕ → ℕ → Carried → Type 0
    FormedPart g t c = In t (members g) × CarriedIn c g 0
