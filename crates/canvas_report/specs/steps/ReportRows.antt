-- Pieces of a report, as they are written one after the other.
use Rattle.std.specs.Prelude.{ℕ, List, [], ◌∷◌, ◌++◌, Option, Some, None, codes}
use Rattle.canvas_semantics.specs.Evaluation.{Rows, state_of}
use Rattle.canvas_task.specs.Text.{Text}
use Rattle.canvas_semantics.specs.Report.{report_line, value_text}
use Rattle.canvas_report.specs.Wording.{task_named}
use Rattle.canvas_report.specs.declared.wording.Naming.{Naming}

-- the line and the value of a task of a run
abbrev pub run_line : Rows → ℕ × Text → Text
run_line rows t = report_line t (state_of t.0 rows)

abbrev pub run_value : Rows → ℕ → Text
run_value rows k = value_text (state_of k rows)

-- the line of a task that has this name
abbrev pub line_if : (ℕ × Text → Text) → ℕ → Option Text → Text
line_if f k None = []
line_if f k (Some name) = f (k, name)

-- values after a first one
abbrev pub listed_further : (ℕ → Text) → List ℕ → Text
listed_further f [] = []
listed_further f (k ∷ ks) = codes ", " ++ f k ++ listed_further f ks

-- a ChordError up to its class
abbrev pub blamer_said : Naming → ℕ → Text
blamer_said n dep = codes "ChordError: Dependency " ++ task_named n dep ++ codes " raised "
