-- The report of the canvas that a text reads as (JSON, RFC 8259; signatures as Celery writes them),
-- or why there is none.
use Rattle.std.specs.Prelude.{◌≡◌, ℕ, List, Ok, Err}
use Rattle.canvas_task.specs.Apply.{Behaviour}
use Rattle.canvas_history.specs.Callers.{told}
use Rattle.canvas_values.specs.CanvasText.{text_reading}
use Rattle.canvas_task.specs.Text.{Text}
use Rattle.canvas_semantics.specs.NormalLine.{normal}
use Rattle.canvas_semantics.specs.Tree.{Tree, numbered}
use Rattle.canvas_semantics.specs.Evaluation.{State}
use Rattle.canvas_semantics.specs.Line.{Line, tree_of}
use Rattle.canvas_semantics.specs.Report.{report}
use Rattle.canvas_semantics.specs.SameMeaning.{IsSame}
use Rattle.canvas_semantics.specs.States.{states}
use Rattle.canvas_runs.specs.Redeliveries.{Entry}
use Rattle.canvas_engine.specs.Correct.{AreWorkers, IsAsked, IsWholeAgain}
use Rattle.canvas_rewrite.specs.Planned.{IsPlan}
use Rattle.canvas_runs.specs.ProgramOrder.{program_order}
use Rattle.canvas_engine.specs.Evidence.{IsRun}
use Rattle.canvas_engine.specs.Headline.{Headline, OnlyWanted}
use Rattle.canvas_engine.specs.declared.by_turns.fault.RunFault.{RunFault}
use Rattle.canvas_engine.specs.declared.threads.records.Records.{Records}
use Rattle.canvas_engine.specs.declared.text.TextFault.{TextFault}
use Rattle.canvas_engine.specs.declared.text.TextFault.TheVariants.{Sig, Run, Memory}

-- the line is the numbered normal line of the canvas that the text reads as
pub record IsPlanOfText (bytes : Text) (c : Tree) (all : Line) : Type 0 where
  pub text : text_reading bytes ≡ Ok c
  pub same : IsSame (normal c) c
  pub tree : tree_of all ≡ numbered (normal c)

-- Why a text has no report: its first refusal, the fault of the run of the canvas that it reads as,
-- or memory refused before or after the run. `Says` is what a run's fault says, given the states.
abbrev pub IsTextFault : Behaviour → Text → (List State → RunFault → Type 0) → TextFault → Type 0
IsTextFault behaviour bytes Says (Sig e) = text_reading bytes ≡ Err e
IsTextFault behaviour bytes Says (Run f) =
    (c : Tree) × (text_reading bytes ≡ Ok c) × Says (states behaviour (numbered c)) f
IsTextFault behaviour bytes Says Memory = Unit {0}

-- The text is the report of the canvas that the bytes read as. The records are those of a run of
-- its plan's line by n workers, with all that such a run promises. The gate may have wanted each
-- redelivery.
pub record IsTextRun (behaviour : Behaviour) (may_want : ℕ → ℕ → Type 0) (bytes : Text) (n : ℕ)
    (text : Text) (r : Records) : Type 0 where
  pub canvas : Tree
  pub line : Line
  pub planned : IsPlanOfText bytes canvas line
  pub workers : AreWorkers n
  pub reported : text ≡ report behaviour canvas
  pub plan : IsPlan line
  pub ran : IsRun behaviour line n (states behaviour (tree_of line)) r
  pub headline : Headline behaviour line n (states behaviour (tree_of line)) r
      (program_order ran.run)
  pub wanted : OnlyWanted may_want (told r.pass)

-- The text is the report of the canvas that the bytes read as. In a run of its plan's line by these
-- turns, with these entries, m stores answered Again: one for each entry whose task evaluation
-- runs.
pub record IsTextAgain (behaviour : Behaviour) (bytes : Text) (n : ℕ) (turns : List ℕ)
    (es : List Entry) (text : Text) (m : ℕ) : Type 0 where
  pub canvas : Tree
  pub line : Line
  pub planned : IsPlanOfText bytes canvas line
  pub asked : IsAsked n turns
  pub reported : text ≡ report behaviour canvas
  pub ran : IsWholeAgain behaviour line n turns es (states behaviour (tree_of line)) m
