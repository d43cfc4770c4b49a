-- The report of rows of any kind as a text: in the form of a run's, with a value of any kind as its
-- JSON and an exception of any kind as its class; or as a person reads it, with the numbers of
-- tasks and the reasons why some were not called.
use Rattle.std.specs.Prelude.{ℕ, List, [], ◌++◌, Option, Some, None, string_bytes, codes, decimal}
use Rattle.std.specs.Fmt.{signed_decimal}
use Rattle.json.specs.Print.{escape}
use Rattle.canvas_task.specs.Text.{Text}
use Rattle.canvas_task.specs.Identifiers.{task_text}
use Rattle.canvas_task.specs.Printed.{kind_name, why_name}
use Rattle.canvas_task.specs.declared.outcome.Fault.{Fault}
use Rattle.canvas_task.specs.declared.outcome.Fault.TheVariants as fault
use Rattle.canvas_task.specs.declared.outcome.Outcome.TheVariants as outcome
use Rattle.canvas_semantics.specs.Evaluation.{State}
use Rattle.canvas_semantics.specs.Tree.{Tree}
use Rattle.canvas_report.specs.Fates.{Fates, fate_at}
use Rattle.canvas_report.specs.JsonRows.{status_name}
use Rattle.canvas_report.specs.StoredRows.{row_of, row_status}
use Rattle.canvas_report.specs.Listing.{report_by}
use Rattle.canvas_report.specs.declared.fate.Fate.{Fate}
use Rattle.canvas_report.specs.declared.fate.Fate.TheVariants.{Ran, Skipped, Idle}
use Rattle.canvas_report.specs.declared.row.Row.{Row}
use Rattle.canvas_report.specs.declared.row.Row.TheVariants as row
use Rattle.canvas_report.specs.declared.wording.Naming.{Naming}
use Rattle.canvas_report.specs.declared.wording.Naming.TheVariants.{Identifier, Number}

abbrev pub task_named : Naming → ℕ → Text
task_named Identifier k = task_text k
task_named Number k = codes "#" ++ decimal k

abbrev pub class_named : Naming → Text → Text
class_named Identifier name = escape name
class_named Number name = name

-- the ChordError of a header in which task dep failed with this
abbrev pub chord_said : Naming → ℕ → Text → Text
chord_said n dep name =
    codes "ChordError: Dependency " ++ task_named n dep ++ codes " raised " ++ name

abbrev pub fault_said : Naming → Fault → Text
fault_said n (fault.Plain kind) = kind_name kind
fault_said n (fault.Chord dep why) = chord_said n dep (why_name why)

abbrev pub state_said : Naming → State → Text
state_said n None = codes "-"
state_said n (Some (outcome.Success z)) = signed_decimal z
state_said n (Some (outcome.Failure f)) = fault_said n f

abbrev pub value_said : Naming → Row → Text
value_said n (row.Known s) = state_said n s
value_said n (row.Value json) = string_bytes json
value_said n (row.Raised name) = class_named n (string_bytes name)
value_said n (row.Blamed dep name) = chord_said n dep (class_named n (string_bytes name))

-- why a task was not called, if its fate is given
abbrev pub reason : Option Fate → Text
reason None = []
reason (Some Ran) = []
reason (Some (Skipped d)) = codes " (not called, due to #" ++ decimal d ++ codes ")"
reason (Some Idle) = codes " (will not run)"

abbrev pub row_said : Naming → Fates → List Row → ℕ × Text → Text
row_said n fates rows t =
    task_named n t.0 ++ codes " " ++ t.1 ++ codes " "
    ++ status_name (row_status (row_of rows t.0)) ++ codes " " ++ value_said n (row_of rows t.0)
    ++ reason (fate_at fates t.0) ++ codes "\n"

abbrev pub said_at : Naming → List Row → ℕ → Text
said_at n rows k = value_said n (row_of rows k)

abbrev pub report_said : Naming → Fates → List Row → Tree → Text
report_said n fates rows c = report_by (row_said n fates rows) (said_at n rows) c

-- the text that `stored_text` writes
abbrev pub stored_said : List Row → Tree → Text
stored_said rows c = report_said Identifier [] rows c

-- the text that `explained_text` writes
abbrev pub explained_said : Fates → List Row → Tree → Text
explained_said fates rows c = report_said Number fates rows c
