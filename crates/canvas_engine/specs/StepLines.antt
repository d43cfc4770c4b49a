-- The lines of the steps of a run by turns: a JSON object (RFC 8259) in each, compact, with its
-- keys in the order of their letters.
--     did_text l rows held d    what a worker did that holds the envelope of this identifier
--     steps_text l rows held ss the lines of steps, if the workers hold these envelopes
use Rattle.std.specs.Prelude.{ℕ, ◌-◌, if◌then◌else◌, Bool, List, [], ◌∷◌, ◌++◌, length, take, drop, replicate, slice_get, slice_set, Option, Some, None, unwrap_or, codes, decimal}
use Rattle.canvas_task.specs.Identifiers.{task_text, group_text}
use Rattle.canvas_task.specs.Text.{Text}
use Rattle.canvas_semantics.specs.Line.{Line, size}
use Rattle.canvas_envelope.specs.Wire.{identifier}
use Rattle.canvas_history.specs.declared.stored.Stored.{Stored}
use Rattle.canvas_history.specs.declared.stored.Stored.TheVariants.{First, Again}
use Rattle.canvas_report.specs.RowTexts.{shown_text}
use Rattle.canvas_report.specs.StoredRows.{row_of}
use Rattle.canvas_report.specs.declared.row.Row.{Row}
use Rattle.canvas_engine.specs.declared.by_turns.notes.Did.{Did}
use Rattle.canvas_engine.specs.declared.by_turns.notes.Did.TheVariants as did
use Rattle.canvas_engine.specs.declared.by_turns.notes.Step.{Step}

-- ---- parts of a line

abbrev pub ask_text : Text → Text
ask_text ask = codes "{\"ask\":\"" ++ ask ++ codes "\""

abbrev pub named_text : Text → Text
named_text id = codes ",\"task_id\":" ++ id

abbrev pub task_member : ℕ → Text
task_member k = codes ",\"task_id\":\"" ++ task_text k ++ codes "\""

abbrev pub group_member : ℕ → Text
group_member g = codes ",\"group_id\":\"" ++ group_text g ++ codes "\""

abbrev pub stored_text : Stored → Text
stored_text First = codes ",\"stored\":\"First\""
stored_text Again = codes ",\"stored\":\"Again\""

abbrev pub more_text : Bool → Text
more_text more = if more then codes ",\"more\":true" else codes ",\"more\":false"

-- ---- by what a worker did

abbrev pub letter_text : Text → Text → Text
letter_text ask id = ask_text ask ++ named_text id

abbrev pub store_text : List Row → ℕ → Stored → Text
store_text rows k s =
    ask_text (codes "store") ++ codes "," ++ shown_text (row_of rows k) ++ codes "\""
    ++ stored_text s ++ task_member k

abbrev pub part_text : (size : ℕ) → ℕ → ℕ → ℕ → Text
part_text size g k before =
    ask_text (codes "part") ++ (codes ",\"before\":" ++ decimal before) ++ group_member g
    ++ (codes ",\"of\":" ++ decimal size) ++ task_member k

abbrev pub null_text : Text
null_text = codes "null"

-- the text of what a worker did that holds the envelope of this identifier
abbrev pub did_text : Line → List Row → Text → Did → Text
did_text l rows held (did.Took None) = letter_text (codes "take") null_text
did_text l rows held (did.Took (Some e)) = letter_text (codes "take") (identifier e.properties)
did_text l rows held (did.Published e) = letter_text (codes "publish") (identifier e.properties)
did_text l rows held (did.Redelivered e) = letter_text (codes "redeliver") (identifier e.properties)
did_text l rows held (did.Stored k o s) = store_text rows k s
did_text l rows held (did.Returned g k n) = part_text (unwrap_or (size l g) 0) g k n
did_text l rows held (did.Read k o) = ask_text (codes "read") ++ task_member k
did_text l rows held did.Acked = letter_text (codes "ack") held
did_text l rows held (did.Rested more) = ask_text (codes "rest") ++ more_text more

abbrev pub worker_text : ℕ → Text
worker_text w = (codes ",\"worker\":" ++ decimal w) ++ codes "}\n"

-- ---- lines

-- Worker 0 and workers 1 to 16 hold none before the first step.
abbrev pub none_held : List Text
none_held = replicate 17 null_text

abbrev pub held_by : List Text → ℕ → Text
held_by held w = unwrap_or (slice_get held w) null_text

-- what the workers hold after a step
abbrev pub held_after : List Text → ℕ → Did → List Text
held_after held w (did.Took (Some e)) = slice_set held w (identifier e.properties)
held_after held w d = held

abbrev pub step_text : Line → List Row → List Text → Step → Text
step_text l rows held s = did_text l rows (held_by held s.worker) s.did ++ worker_text s.worker

abbrev pub steps_text : Line → List Row → List Text → List Step → Text
steps_text l rows held [] = []
steps_text l rows held (s ∷ ss) =
    step_text l rows held s ++ steps_text l rows (held_after held s.worker s.did) ss
