-- The row of a task from its line, for tasks that return or raise anything: the outcomes of the
-- engine's own tasks as they are (`Stored`), any other value by its JSON, and any other exception
-- by its class (Celery 5: celery/backends/base.py, `_get_result_meta`, `prepare_exception`).
use Rattle.std.specs.Prelude.{◌≡◌, ◌≢◌, ◌≤◌, ◌==◌, ◌⊎◌, ℕ, suc, ℤ, true, List, [], ◌∷◌, ◌++◌}
use Rattle.std.specs.Prelude.{Some, None, codes, string_bytes}
use Rattle.std.specs.List.{before_first}
use Rattle.json.specs.Lex.{tokens}
use Rattle.json.specs.Print.{print}
use Rattle.serde_json.specs.Data.{Data}
use Rattle.canvas_task.specs.Text.{Text}
use Rattle.canvas_task.specs.Numbers.{in_range}
use Rattle.canvas_task.specs.Printed.{kind_name, why_name}
use Rattle.canvas_task.specs.declared.outcome.Kind.{Kind}
use Rattle.canvas_task.specs.declared.outcome.Why.{Why}
use Rattle.canvas_values.specs.CanvasText.{json_of}
use Rattle.canvas_celery.specs.Run.{run_task}
use Rattle.canvas_report.specs.declared.row.Row.{Row}
use Rattle.canvas_report.specs.declared.row.Row.TheVariants.{Known, Value, Raised, Blamed}
use Rattle.canvas_celery.specs.Stored.{state_of, result_of, integer_in, class_of, message_of}
use Rattle.canvas_celery.specs.Stored.{SaysRow, IsResult}

-- the text is the value's JSON (RFC 8259), with no blanks
abbrev pub IsJsonOf : Text → Data → Type 0
IsJsonOf text d = (json_of text ≡ Some d) × (text ≡ print (tokens text))

-- the message of a ChordError, which names a task of the canvas and the class that it raised
-- (celery/backends/redis.py, `_unpack_chord_result`)
abbrev pub Names : (run : Text) → (count : ℕ) → Text → ℕ → Text → Type 0
Names run count message dep name =
    (1 ≤ dep) × (dep ≤ count) × ((raised : Text)
    × (message ≡ codes "Dependency " ++ (run_task run dep ++ (codes " raised " ++ raised)))
    × (before_first (λ b. b == 40) raised ≡ name))

-- the row of an exception: its class, if that is no built-in task's and names no task of the canvas
abbrev pub IsRaised : (run : Text) → (count : ℕ) → Data → Text → Type 0
IsRaised run count d name =
    (class_of d ≡ name) × (name ≢ []) × ((kind : Kind) → name ≢ kind_name kind)
    × (name ≡ codes "ChordError"
    → (dep : ℕ) (other : Text) → ¬ Names run count (message_of d) dep other)

-- the row of a ChordError: the task that it names, with a class that is none of the built-in tasks'
abbrev pub IsBlamed : (run : Text) → (count : ℕ) → Data → ℕ → Text → Type 0
IsBlamed run count d dep name =
    (class_of d ≡ codes "ChordError") × Names run count (message_of d) dep name
    × ((why : Why) → name ≢ why_name why)

-- the row of a result
abbrev pub IsRow : (run : Text) → (count : ℕ) → Data → Row → Type 0
IsRow run count d (Known row) = SaysRow run count d row
IsRow run count d (Value text) =
    (state_of d ≡ codes "SUCCESS") × IsJsonOf (string_bytes text) (result_of d)
    × ((n : ℤ) → integer_in (result_of d) ≡ Some n → in_range n ≢ true)
IsRow run count d (Raised name) =
    (state_of d ≡ codes "FAILURE") × IsRaised run count (result_of d) (string_bytes name)
IsRow run count d (Blamed dep name) =
    (state_of d ≡ codes "FAILURE") × IsBlamed run count (result_of d) dep (string_bytes name)

-- the row that the line gives: pending for an empty line
abbrev pub Says : (run : Text) → (count : ℕ) → ℕ → Text → Row → Type 0
Says run count k line row =
    ((line ≡ []) × (row ≡ Known None))
    ⊎ ((d : Data) × IsResult run k line d × IsRow run count d row)

-- each row, from that of task k on, is the one that its own line gives
abbrev pub AllSaid : (run : Text) → (count : ℕ) → ℕ → List Text → List Row → Type 0
AllSaid run count k [] [] = Unit {0}
AllSaid run count k [] (row ∷ rows) = ⊥
AllSaid run count k (line ∷ lines) [] = ⊥
AllSaid run count k (line ∷ lines) (row ∷ rows) =
    Says run count k line row × AllSaid run count (suc k) lines rows
