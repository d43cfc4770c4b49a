-- The texts that adapting keeps or refuses.
use Rattle.std.specs.Prelude.{◌≡◌, ◌≢◌, Bool, true, false, List, [], Result, Ok, Err, MatchResult}
use Rattle.canvas_task.specs.Text.{Text}
use Rattle.canvas_semantics.specs.Tree.{Tree, count}
use Rattle.canvas_values.specs.CanvasText.{text_reading}
use Rattle.canvas_values.specs.declared.fault.SigFault.{SigFault}
use Rattle.canvas_values.specs.declared.fault.SigFault.TheVariants.{TooLarge, NotJson, Memory}
use Rattle.canvas_adapt.specs.declared.changes.Changes.{Changes}
use Rattle.canvas_adapt.specs.declared.adapting.Adapted.{Adapted}
use Rattle.canvas_adapt.specs.declared.printing.AdaptedText.{AdaptedText}
use Rattle.canvas_adapt.specs.declared.renames.Rename.{Rename}

abbrev pub no_changes : Changes
no_changes = record {
  arguments = 0;
  callbacks = 0;
  groups = 0;
  maps = 0;
  frozen = 0;
  compounds = 0;
}

-- refused with this fault, unless memory ran out
abbrev pub IsRefused : {A : Type 0} → SigFault → Result A SigFault → Type 0
IsRefused fault made = MatchResult made (λ a. ⊥) (λ e. e ≢ Memory → e ≡ fault)

-- a refusal of a whole text, which no signature has
abbrev pub is_of_text : SigFault → Bool
is_of_text TooLarge = true
is_of_text NotJson = true
is_of_text Memory = true
is_of_text fault = false

-- ---- canvases

-- the result is this canvas, unchanged
abbrev pub IsKept : Tree → Adapted → Type 0
IsKept c a = (a.canvas ≡ c) × (a.changes ≡ no_changes)

-- If there is nothing to adapt, the result is that of reading the bytes: a canvas is unchanged, and
-- a text that is too large or not JSON is refused as such.
abbrev pub IsSettled : Result Tree SigFault → Result Adapted SigFault → Type 0
IsSettled (Ok c) made = MatchResult made (IsKept c) (λ e. e ≡ Memory)
IsSettled (Err fault) made = is_of_text fault ≡ true → IsRefused fault made

-- ---- texts

-- the text reads as a canvas, which has this number of tasks
abbrev pub Reads : AdaptedText → Type 0
Reads a = (c : Tree) × (text_reading a.text.items ≡ Ok c) × (a.tasks ≡ count c)

-- the text is these bytes, unchanged
abbrev pub IsKeptText : Text → AdaptedText → Type 0
IsKeptText bytes a = (a.text.items ≡ bytes) × (a.changes ≡ no_changes)

-- the result for a text with other names for some tasks: with none, a canvas is unchanged
abbrev pub IsSettledText : List Rename → Text → Result Tree SigFault
    → Result AdaptedText SigFault → Type 0
IsSettledText renames bytes (Ok c) made =
    renames ≡ [] → MatchResult made (IsKeptText bytes) (λ e. e ≡ Memory)
IsSettledText renames bytes (Err fault) made = is_of_text fault ≡ true → IsRefused fault made
