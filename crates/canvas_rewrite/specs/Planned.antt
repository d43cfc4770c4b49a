-- The invariant of a plan's line. A plan is a canvas that is ready to run, as Celery's
-- `Signature.freeze` makes one.
use Rattle.std.specs.Prelude.{◌≡◌, ◌==◌, ◌<◌, ℕ, count_by}
use Rattle.canvas_semantics.specs.Line.{Line, number_line, members, tree_of}
use Rattle.canvas_rewrite.specs.Runnable.{IsRunnable}

-- its tasks, and its groups and chords, are numbered from 1 in file order
pub record IsPlan (l : Line) : Type 0 where
  pub numbered : number_line 1 1 l ≡ l
  pub runnable : IsRunnable (tree_of l)

-- how many times a task is the last of a member of a group or chord
abbrev pub times : Line → ℕ → ℕ → ℕ
times l k g = count_by (λ x. x == k) (members l g)

-- a task is a member of at most one group or chord, and only once
abbrev pub Apart : Line → Type 0
Apart l = (g k : ℕ) → 0 < times l k g → (times l k g ≡ 1) × ((h : ℕ) → 0 < times l k h → h ≡ g)
