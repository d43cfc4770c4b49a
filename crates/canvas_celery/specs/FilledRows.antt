-- The rows that completing leaves, of any kind: each is as it was, or was pending and is a failure.
use Rattle.std.specs.Prelude.{◌≡◌, ◌⊎◌, ℕ, List, get_or, Some, None}
use Rattle.canvas_task.specs.declared.outcome.Outcome.TheVariants.{Success, Failure}
use Rattle.canvas_report.specs.declared.row.Row.{Row}
use Rattle.canvas_report.specs.declared.row.Row.TheVariants.{Known, Value, Raised, Blamed}

abbrev pub pending : Row
pending = Known None

abbrev pub IsFailed : Row → Type 0
IsFailed (Known None) = ⊥
IsFailed (Known (Some (Success n))) = ⊥
IsFailed (Known (Some (Failure f))) = Unit {0}
IsFailed (Value text) = ⊥
IsFailed (Raised name) = Unit {0}
IsFailed (Blamed dep name) = Unit {0}

-- what a pending row may be filled with
abbrev pub IsFilling : Row → Type 0
IsFilling row = (row ≡ pending) ⊎ IsFailed row

abbrev pub IsFilled : (old new : Row) → Type 0
IsFilled old new = (new ≡ old) ⊎ ((old ≡ pending) × IsFailed new)

abbrev pub AreFilled : (old new : List Row) → Type 0
AreFilled old new = (k : ℕ) → IsFilled (get_or old k pending) (get_or new k pending)
