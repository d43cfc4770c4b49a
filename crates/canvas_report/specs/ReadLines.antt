-- What a reader of JSON lines gets: each text between line feeds, read as JSON (RFC 8259).
use Rattle.std.specs.Prelude.{◌≡◌, ◌==◌, ◌<◌, ◌^◌, ℕ, ℤ, pos, negsuc, List, [], ◌∷◌, ◌++◌, map, Option, Some, None}
use Rattle.std.specs.List.{slice_split}
use Rattle.serde_json.specs.Data.{Data}
use Rattle.serde_json.specs.Read.{read}
use Rattle.canvas_task.specs.Text.{Text}
use Rattle.canvas_task.specs.declared.outcome.Outcome.TheVariants.{Success, Failure}
use Rattle.canvas_semantics.specs.Evaluation.{State, Rows, state_of}

abbrev pub lines_read : Text → List (Option Data)
lines_read text = map read (slice_split (λ b. b == 10) text)

-- each of these, and nothing after the last line feed
abbrev pub ReadsAs : Text → List Data → Type 0
ReadsAs text ds = lines_read text ≡ map (λ d. Some d) ds ++ None ∷ []

-- a number of 64 bits, as each success is by its type
abbrev pub Is64 : ℤ → Type 0
Is64 (pos n) = n < 2 ^ 63
Is64 (negsuc n) = n < 2 ^ 63

abbrev pub IsTyped : State → Type 0
IsTyped None = Unit {0}
IsTyped (Some (Success n)) = Is64 n
IsTyped (Some (Failure f)) = Unit {0}

abbrev pub AreTyped : Rows → Type 0
AreTyped rows = (k : ℕ) → IsTyped (state_of k rows)

-- a count of 64 bits, as each is by its type
abbrev pub IsTypedCount : Option ℕ → Type 0
IsTypedCount None = Unit {0}
IsTypedCount (Some n) = n < 2 ^ 64
