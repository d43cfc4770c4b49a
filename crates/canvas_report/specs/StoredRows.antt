-- The status and result of rows of any kind, as Celery stored them (celery/backends/base.py): a
-- value of any kind by its JSON, and an exception of any kind by its class.
use Rattle.std.specs.Prelude.{◌≡◌, ℕ, zero, suc, List, None, slice_get, unwrap_or, string_bytes}
use Rattle.serde_json.specs.Written.{compact_text}
use Rattle.canvas_report.specs.declared.row.Row.{Row}
use Rattle.canvas_report.specs.declared.row.Row.TheVariants.{Known, Value, Raised, Blamed}
use Rattle.canvas_report.specs.JsonRows.{Shown, shown, status_of, raised_wire, blamed_wire}
use Rattle.canvas_report.specs.declared.shown.Status.{Status}
use Rattle.canvas_report.specs.declared.shown.Status.TheVariants.{Success, Failure}

-- the row of task k, from 1; it is pending if it is missing
abbrev pub row_of : List Row → ℕ → Row
row_of rows zero = Known None
row_of rows (suc k) = unwrap_or (slice_get rows k) (Known None)

abbrev pub row_status : Row → Status
row_status (Known s) = status_of s
row_status (Value json) = Success
row_status (Raised name) = Failure
row_status (Blamed dep name) = Failure

-- A value is a success, and its result is what the row's JSON spells, with no blanks.
abbrev pub Shows : Row → Shown → Type 0
Shows (Known s) x = x ≡ shown s
Shows (Value json) x = (x.status ≡ Success) × (string_bytes json ≡ compact_text x.result)
Shows (Raised name) x =
    x ≡ record { status = Failure; result = raised_wire (string_bytes name) }
Shows (Blamed dep name) x =
    x ≡ record { status = Failure; result = blamed_wire dep (string_bytes name) }

abbrev pub AllShow : List Row → (ℕ → Shown) → Type 0
AllShow rows at = (k : ℕ) → Shows (row_of rows k) (at k)
