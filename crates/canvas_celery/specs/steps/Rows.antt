-- One row more of any kind, and the lines of a text that were read.
use Rattle.std.specs.Prelude.{◌≡◌, ◌≢◌, ℕ, List, [], ◌∷◌, ◌++◌, length, string_bytes}
use Rattle.serde_json.specs.Data.{Data}
use Rattle.canvas_task.specs.Text.{Text}
use Rattle.canvas_celery.specs.declared.results.collecting.CollectFault.{CollectFault}
use Rattle.canvas_celery.specs.declared.results.collecting.CollectFault.TheVariants as fault
use Rattle.canvas_report.specs.declared.row.Row.{Row}
use Rattle.canvas_report.specs.declared.row.Row.TheVariants.{Value, Raised, Blamed}
use Rattle.canvas_celery.specs.declared.results.stored.StoredFault.{StoredFault}
use Rattle.canvas_celery.specs.declared.results.stored.StoredFault.TheVariants as stored
use Rattle.canvas_celery.specs.Pieces.{lines_in}
use Rattle.canvas_celery.specs.AsStored.{IsJsonOf, IsRaised, IsBlamed, Says, AllSaid}
use Rattle.canvas_celery.specs.Refused.{RefusesResult, Refuses}

-- memory is refused
abbrev pub IsRefused : StoredFault → Type 0
IsRefused stored.Memory = Unit {0}
IsRefused fault = ⊥

abbrev pub HasJson : Data → Row → Type 0
HasJson d (Value text) = IsJsonOf (string_bytes text) d
HasJson d row = ⊥

abbrev pub HasClass : Text → Row → Type 0
HasClass class (Raised name) = (string_bytes name ≡ class) × (class ≢ [])
HasClass class row = ⊥

abbrev pub HasBlame : ℕ → Text → Row → Type 0
HasBlame dep class (Blamed k name) = (k ≡ dep) × (string_bytes name ≡ class)
HasBlame dep class row = ⊥

-- there is no class, or memory is refused
abbrev pub LacksClass : Text → StoredFault → Type 0
LacksClass class stored.UnknownException = class ≡ []
LacksClass class stored.Memory = Unit {0}
LacksClass class fault = ⊥

-- the row of a ChordError
abbrev pub IsChordRow : (run : Text) → (count : ℕ) → Data → Row → Type 0
IsChordRow run count d (Raised name) = IsRaised run count d (string_bytes name)
IsChordRow run count d (Blamed dep name) = IsBlamed run count d dep (string_bytes name)
IsChordRow run count d row = ⊥

-- no row shows the result, or memory is refused
abbrev pub ResultFault : Data → StoredFault → Type 0
ResultFault d stored.Memory = Unit {0}
ResultFault d fault = RefusesResult d fault

-- like `ResultFault`, for a line
abbrev pub LineFault : (run : Text) → (count : ℕ) → ℕ → Text → StoredFault → Type 0
LineFault run count k line stored.Memory = Unit {0}
LineFault run count k line fault = Refuses run count k line fault

-- like `LineFault`, with the task
abbrev pub RowFault : (run : Text) → (count : ℕ) → ℕ → Text → CollectFault → Type 0
RowFault run count k line (fault.Stored task fault) =
    (task ≡ k) × Refuses run count task line fault
RowFault run count k line fault.BadCount = ⊥
RowFault run count k line fault.Memory = Unit {0}

-- the last row is the one that the line gives for task k
abbrev pub Gains : (run : Text) → (count : ℕ) → ℕ → Text → (old new : List Row) → Type 0
Gains run count k line old new =
    (row : Row) × (new ≡ old ++ row ∷ []) × Says run count k line row

-- n lines of the text have their rows, and the rest is to be read
abbrev pub IsRead : (run : Text) → (count : ℕ) → (text rest : Text) → ℕ → List Row → Type 0
IsRead run count text rest n rows =
    (before : List Text) × (lines_in text ≡ before ++ lines_in rest) × (length before ≡ n)
    × (length rows ≡ n) × AllSaid run count 1 before rows
