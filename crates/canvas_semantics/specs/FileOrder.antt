-- Lines whose tasks are numbered in the order of the file, and whose groups and chords have the
-- members that a table gives.
use Rattle.std.specs.Prelude.{ℕ, suc, ◌≤◌, ◌≡◌, Bool, true, false, List}
use Rattle.canvas_semantics.specs.Tree.{Task, task, Tasks, no_tasks, and_task}
use Rattle.canvas_semantics.specs.Line.{Line, stop, step, group_end, chord_end, Lines, no_lines, and_line, all_ends_of}

-- numbers from the first bound to below the second: a task, its links, its error callbacks
abbrev mutual
  pub TaskIn : Task → ℕ → ℕ → Type 0
  TaskIn (task k call links errbacks) low high =
      (low ≤ k) × (middle : ℕ) × TasksIn links (suc k) middle × TasksIn errbacks middle high

  pub TasksIn : Tasks → ℕ → ℕ → Type 0
  TasksIn no_tasks low high = low ≤ high
  TasksIn (and_task t ts) low high = (middle : ℕ) × TaskIn t low middle × TasksIn ts middle high

-- the line ends in a task, or is empty after one
abbrev pub EndsInTask : Bool → Line → Type 0
EndsInTask behind stop = behind ≡ true
EndsInTask behind (step t rest) = EndsInTask true rest
EndsInTask behind (group_end g ms) = ⊥
EndsInTask behind (chord_end g ms body) = EndsInTask false body

-- A header before its body. Each member ends in a task, and the table has the members' last tasks
-- in order.
module _ (table : ℕ → List ℕ) where
  abbrev mutual
    pub LineIn : Line → ℕ → ℕ → Type 0
    LineIn stop low high = low ≤ high
    LineIn (step t rest) low high = (middle : ℕ) × TaskIn t low middle × LineIn rest middle high
    LineIn (group_end g ms) low high = LinesIn ms low high × (table g ≡ all_ends_of ms)
    LineIn (chord_end g ms body) low high =
        (middle : ℕ) × LinesIn ms low middle × LineIn body middle high × (table g ≡ all_ends_of ms)

    pub LinesIn : Lines → ℕ → ℕ → Type 0
    LinesIn no_lines low high = low ≤ high
    LinesIn (and_line m ms) low high =
        (middle : ℕ) × LineIn m low middle × EndsInTask false m × LinesIn ms middle high
