-- The fates of the tasks of a run.
use Rattle.std.specs.Prelude.{ℕ, zero, suc, List, slice_get, Option, None}
use Rattle.std.specs.Option.{option_map}
use Rattle.canvas_report.specs.declared.fate.Fate.{Fate}

-- each task's number, and its fate
abbrev pub Fates : Type 0
Fates = List (ℕ × Fate)

-- the fate of task k, given fates in the order of the tasks' numbers, from task 1 on
abbrev pub fate_at : Fates → ℕ → Option Fate
fate_at fates zero = None
fate_at fates (suc k) = option_map (λ f. f.1) (slice_get fates k)
