-- What rows of any kind show: two that differ only in the memory that they hold show the same.
use Rattle.std.specs.Prelude.{◌-◌, ℕ, List, map, slice_index_or, None, string_bytes}
use Rattle.canvas_task.specs.Text.{Text}
use Rattle.canvas_semantics.specs.Evaluation.{State}
use Rattle.canvas_report.specs.declared.row.Row.{Row}
use Rattle.canvas_report.specs.declared.row.Row.TheVariants as row

-- an outcome or none yet, the JSON of a value, the class of an exception, or a ChordError with the
-- task that it names and the class of that task's exception
pub data Look : Type 0 where
  known : State → Look
  value : Text → Look
  raised : Text → Look
  blamed : ℕ → Text → Look

abbrev pub look : Row → Look
look (row.Known s) = known s
look (row.Value json) = value (string_bytes json)
look (row.Raised name) = raised (string_bytes name)
look (row.Blamed dep name) = blamed dep (string_bytes name)

abbrev pub looks : List Row → List Look
looks rows = map look rows

-- the look of task k, from 1; it is pending if it is missing
abbrev pub look_at : List Look → ℕ → Look
look_at ls k = slice_index_or ls (k - 1) (known None)
