-- The rows as JSON, text by text: how each of their parts is written.
use Rattle.std.specs.Prelude.{ℕ, Bool, true, false, String, List, [], ◌∷◌, ◌++◌, map, Option, Some, None, string_bytes, codes, decimal}
use Rattle.std.specs.Fmt.{signed_decimal}
use Rattle.std.specs.declared.alloc.Global.{Global}
use Rattle.json.specs.Print.{quoted}
use Rattle.serde_json.specs.Written.{comma_if}
use Rattle.canvas_task.specs.Text.{Text}
use Rattle.canvas_task.specs.Identifiers.{task_text}
use Rattle.canvas_task.specs.Printed.{kind_name, why_name}
use Rattle.canvas_task.specs.declared.outcome.Fault.{Fault}
use Rattle.canvas_task.specs.declared.outcome.Fault.TheVariants as fault
use Rattle.canvas_task.specs.declared.outcome.Outcome.TheVariants as outcome
use Rattle.canvas_semantics.specs.Evaluation.{State, ends}
use Rattle.canvas_semantics.specs.Report.{names_by_number}
use Rattle.canvas_semantics.specs.Tree.{Tree, ends_in_group}
use Rattle.canvas_report.specs.declared.row.Row.{Row}
use Rattle.canvas_report.specs.declared.row.Row.TheVariants as row
use Rattle.canvas_report.specs.Fates.{Fates, fate_at}
use Rattle.canvas_report.specs.declared.fate.Fate.{Fate}
use Rattle.canvas_report.specs.declared.fate.Fate.TheVariants.{Ran, Skipped, Idle}
use Rattle.canvas_report.specs.StoredRows.{row_of, row_status}
use Rattle.canvas_report.specs.JsonRows.{status_name, status_of_all, parameter_of}
use Rattle.canvas_report.specs.Listing.{lines}
use Rattle.canvas_report.specs.declared.shown.Status.{Status}

-- ---- rows

abbrev pub statuses : List Row → List ℕ → List Status
statuses rows ks = map (λ k. row_status (row_of rows k)) ks

-- ---- results

abbrev pub raised_text : Text → Text
raised_text name = codes "{\"exc_message\":[],\"exc_type\":" ++ quoted name ++ codes "}"

abbrev pub blamed_text : ℕ → Text → Text
blamed_text dep name =
    codes "{\"exc_message\":["
    ++ quoted (codes "Dependency " ++ task_text dep ++ codes " raised " ++ name)
    ++ codes "],\"exc_type\":\"ChordError\"}"

abbrev pub fault_json : Fault → Text
fault_json (fault.Plain kind) = raised_text (kind_name kind)
fault_json (fault.Chord dep why) = blamed_text dep (why_name why)

abbrev pub state_json : State → Text
state_json None = codes "null"
state_json (Some (outcome.Success n)) = signed_decimal n
state_json (Some (outcome.Failure f)) = fault_json f

abbrev pub result_json : Row → Text
result_json (row.Known s) = state_json s
result_json (row.Value json) = string_bytes json
result_json (row.Raised name) = raised_text (string_bytes name)
result_json (row.Blamed dep name) = blamed_text dep (string_bytes name)

-- ---- a task's row

abbrev pub due_text : Option Fate → Text
due_text None = []
due_text (Some Ran) = codes "\"due_to\":null,"
due_text (Some (Skipped dep)) = codes "\"due_to\":\"" ++ task_text dep ++ codes "\","
due_text (Some Idle) = codes "\"due_to\":null,"

abbrev pub ran_text : Option Fate → Text
ran_text None = []
ran_text (Some Ran) = codes "\"ran\":true,"
ran_text (Some (Skipped dep)) = codes "\"ran\":false,"
ran_text (Some Idle) = codes "\"ran\":false,"

abbrev pub parameter_json : Option Text → Text
parameter_json None = codes "\"parameter\":null,"
parameter_json (Some name) = codes "\"parameter\":" ++ quoted name ++ codes ","

abbrev pub parameter_text : Option (Option Text) → Text
parameter_text None = []
parameter_text (Some p) = parameter_json p

-- up to the result
abbrev pub front_text : Option Fate → Option (Option Text) → (name : Text) → Text
front_text fate parameter name =
    codes "{" ++ due_text fate ++ codes "\"name\":" ++ quoted name ++ codes ","
    ++ parameter_text parameter ++ ran_text fate

-- the result and the status
abbrev pub shown_text : Row → Text
shown_text r =
    codes "\"result\":" ++ result_json r ++ codes ",\"status\":\"" ++ status_name (row_status r)

abbrev pub row_text : Option Fate → Option (Option Text) → ℕ × Text → Row → Text
row_text fate parameter t r =
    front_text fate parameter t.1 ++ shown_text r ++ codes "\",\"task_id\":\"" ++ task_text t.0
    ++ codes "\"}\n"

-- the line of a task's row, with its fate and its parameter
abbrev pub row_line : Fates → (ℕ → Option (Option Text)) → List Row → ℕ × Text → Text
row_line fates parameter rows t = row_text (fate_at fates t.0) (parameter t.0) t (row_of rows t.0)

-- ---- the result of the canvas

-- results with a comma between two
abbrev pub listed_json : Bool → List Row → List ℕ → Text
listed_json later rows [] = []
listed_json later rows (k ∷ ks) =
    comma_if later ++ (result_json (row_of rows k) ++ listed_json true rows ks)

abbrev pub status_text : List Row → List ℕ → Text
status_text rows ks =
    codes ",\"status\":\"" ++ status_name (status_of_all (statuses rows ks)) ++ codes "\"}\n"

abbrev pub again_text : Option ℕ → Text
again_text None = []
again_text (Some n) = codes "\"again\":" ++ decimal n ++ codes ","

-- identifiers in quotes, with a comma between two
abbrev pub identifiers_json : Bool → List ℕ → Text
identifiers_json later [] = []
identifiers_json later (k ∷ ks) =
    comma_if later ++ ((codes "\"" ++ task_text k ++ codes "\"") ++ identifiers_json true ks)

-- up to the result
abbrev pub end_front : Option ℕ → List ℕ → Text
end_front again ks =
    codes "{" ++ again_text again ++ codes "\"ends\":[" ++ identifiers_json false ks ++ codes "],"

-- from the result on
abbrev pub end_back : Bool → List Row → List ℕ → Text
end_back true rows ks =
    codes "\"result\":[" ++ listed_json false rows ks ++ codes "]" ++ status_text rows ks
end_back false rows [] = codes "\"result\":null" ++ status_text rows []
end_back false rows (k ∷ ks) =
    codes "\"result\":" ++ result_json (row_of rows k) ++ status_text rows (k ∷ ks)

abbrev pub end_text : Option ℕ → Bool → List Row → List ℕ → Text
end_text again several rows ks = end_front again ks ++ end_back several rows ks

-- ---- all of them

-- the rows with each task's fate and parameter, for any stored values; and the result of the canvas
abbrev pub stored_lines : Fates → List (ℕ × Option (String Global)) → (again : Option ℕ)
    → List Row → Tree → Text
stored_lines fates blamed again rows c =
    lines (row_line fates (parameter_of blamed) rows) (names_by_number c)
    ++ end_text again (ends_in_group c) rows (ends c)
