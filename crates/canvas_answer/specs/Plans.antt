-- The canvas and the plan of a text, as a run of it has them; or why the text has none (JSON,
-- RFC 8259; signatures as Celery writes them).
use Rattle.std.specs.Prelude.{◌≡◌, Bool, true, false, List, [], Ok, Err, option_map, unwrap_or}
use Rattle.canvas_task.specs.Text.{Text}
use Rattle.canvas_values.specs.CanvasText.{text_reading}
use Rattle.canvas_values.specs.declared.fault.SigFault.{SigFault}
use Rattle.canvas_semantics.specs.Line.{Line, tree_of}
use Rattle.canvas_semantics.specs.NormalLine.{normal}
use Rattle.canvas_semantics.specs.SameMeaning.{IsSame}
use Rattle.canvas_semantics.specs.Tree.{Tree, numbered}
use Rattle.canvas_adapt.specs.Renamed.{renamed}
use Rattle.canvas_adapt.specs.declared.renames.Rename.{Rename}
use Rattle.canvas_answer.specs.Asking.{Asking}
use Rattle.canvas_answer.specs.declared.prepared.Plans.{Plans}
use Rattle.canvas_answer.specs.declared.prepared.Spelled.{Spelled}
use Rattle.canvas_answer.specs.declared.refusal.Refusal.{Refusal}
use Rattle.canvas_answer.specs.declared.refusal.Refusal.TheVariants.{Canvas, Memory}

-- The canvas of a text is the one that it spells. If the text is adapted first, this holds only of
-- a text that spells one.
abbrev pub IsCanvasOf : (adapts : Bool) → Text → Tree → Type 0
IsCanvasOf false bytes c = text_reading bytes ≡ Ok c
IsCanvasOf true bytes c = (t : Tree) → text_reading bytes ≡ Ok t → c ≡ t

-- the numbered normal line of a canvas
abbrev pub IsPlanOf : Tree → Line → Type 0
IsPlanOf c l = IsSame (normal c) c × (tree_of l ≡ numbered (normal c))

abbrev pub IsTextPlan : Text → Line → Type 0
IsTextPlan bytes l = (c : Tree) × (text_reading bytes ≡ Ok c) × IsPlanOf c l

-- ---- plans

abbrev pub run_line : Plans → Line
run_line plans = unwrap_or plans.named plans.shown

-- The line of a canvas as it is shown, and as it is run: in the run, tasks with a numbered stub
-- have the names of their stubs.
pub record ArePlansOf (its : Asking) (bytes : Text) (shown run : Line) : Type 0 where
  pub canvas : Tree
  pub read : IsCanvasOf its.adapts bytes canvas
  pub shows : IsPlanOf canvas shown
  pub runs : IsPlanOf (renamed its.renames canvas) run

-- ---- texts

-- The text that `canvas adapt` gives spells a canvas. If the bytes spell one and no task gets
-- another name, it is these bytes.
pub record IsAdaptedText (bytes : Text) (renames : List Rename) (made : Text) : Type 0 where
  pub spelled : (c : Tree) × (text_reading made ≡ Ok c)
  pub kept : (c : Tree) → text_reading bytes ≡ Ok c → renames ≡ [] → made ≡ bytes

-- the text that is used for the bytes: the adapted one, if they are adapted first
abbrev pub IsSpelled : (adapts : Bool) → Text → Text → Type 0
IsSpelled false bytes made = made ≡ bytes
IsSpelled true bytes made = IsAdaptedText bytes [] made

abbrev pub spelled_text : Spelled → Text → Text
spelled_text s bytes = unwrap_or (option_map (λ a. a.text.items) s.adapted) bytes

-- the first refusal of a text, or memory that was refused
abbrev pub IsReadRefusal : Text → Refusal → Type 0
IsReadRefusal bytes (Canvas e) = text_reading bytes ≡ Err e
IsReadRefusal bytes Memory = Unit {0}
IsReadRefusal bytes refusal = ⊥

-- no canvas is spelled
abbrev pub IsNoCanvas : Text → Type 0
IsNoCanvas bytes = (fault : SigFault) × (text_reading bytes ≡ Err fault)

-- Why there are no plans of a text. If no task gets another name for the run, a canvas that is
-- refused is one that the text doesn't spell.
abbrev pub IsPlanRefusal : List Rename → Text → Refusal → Type 0
IsPlanRefusal renames bytes refusal =
    (fault : SigFault) → refusal ≡ Canvas fault → renames ≡ [] → IsNoCanvas bytes
