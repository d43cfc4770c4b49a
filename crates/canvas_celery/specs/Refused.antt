-- Which results are refused, and why: only those that can't be read. If a line has several faults,
-- the first counts: it is not JSON, it is of another task, its state, its exception.
use Rattle.std.specs.Prelude.{◌≡◌, ◌≢◌, ◌+◌, ℕ, List, [], ◌∷◌, ◌++◌, length, Some, None, codes}
use Rattle.serde_json.specs.Data.{Data}
use Rattle.canvas_task.specs.Text.{Text}
use Rattle.canvas_values.specs.CanvasText.{json_of}
use Rattle.canvas_celery.specs.Run.{run_task}
use Rattle.canvas_celery.specs.declared.results.collecting.CollectFault.{CollectFault}
use Rattle.canvas_celery.specs.declared.results.collecting.CollectFault.TheVariants as fault
use Rattle.canvas_report.specs.declared.row.Row.{Row}
use Rattle.canvas_celery.specs.declared.results.stored.StoredFault.{StoredFault}
use Rattle.canvas_celery.specs.declared.results.stored.StoredFault.TheVariants.{NotJson, OtherTask}
use Rattle.canvas_celery.specs.declared.results.stored.StoredFault.TheVariants.{UnknownState}
use Rattle.canvas_celery.specs.declared.results.stored.StoredFault.TheVariants.{UnknownException}
use Rattle.canvas_celery.specs.Stored.{state_of, result_of, class_of, named_in, Waits, IsResult}
use Rattle.canvas_celery.specs.AsStored.{AllSaid}

-- the faults of a result: its state is unknown, or it is a failure with no class
abbrev pub RefusesResult : Data → StoredFault → Type 0
RefusesResult d UnknownState =
    (state_of d ≢ codes "SUCCESS") × (state_of d ≢ codes "FAILURE") × (¬ Waits (state_of d))
RefusesResult d UnknownException = (state_of d ≡ codes "FAILURE") × (class_of (result_of d) ≡ [])
RefusesResult d fault = ⊥

-- the faults of the line of task k
abbrev pub Refuses : (run : Text) → (count : ℕ) → ℕ → Text → StoredFault → Type 0
Refuses run count k line NotJson = (line ≢ []) × (json_of line ≡ None)
Refuses run count k line OtherTask =
    (d : Data) × (json_of line ≡ Some d) × (named_in d ≢ run_task run k)
Refuses run count k line fault = (d : Data) × IsResult run k line d × RefusesResult d fault

-- the lines before that of the task give rows, and that line is refused
abbrev pub RefusesFirst : (run : Text) → (count : ℕ) → List Text → ℕ → StoredFault → Type 0
RefusesFirst run count lines task fault =
    (before : List Text) × (rows : List Row) × (line : Text) × (after : List Text)
    × (lines ≡ before ++ line ∷ after) × (task ≡ length before + 1)
    × AllSaid run count 1 before rows × Refuses run count task line fault

-- the number of lines is checked first
abbrev pub IsCollectFault : (run : Text) → (count : ℕ) → List Text → CollectFault → Type 0
IsCollectFault run count lines fault.BadCount = length lines ≢ count
IsCollectFault run count lines (fault.Stored task fault) =
    (length lines ≡ count) × RefusesFirst run count lines task fault
IsCollectFault run count lines fault.Memory = Unit {0}
