-- The answer of `canvas normal`: the line that a canvas is run as, as JSON (RFC 8259) with a line
-- feed; or that of its plan, whose signatures have identifiers in their options (Celery's
-- `Signature.freeze`).
use Rattle.std.specs.Prelude.{◌≡◌, ◌++◌, Bool, true, false, None, codes}
use Rattle.serde_json.specs.Written.{compact_text}
use Rattle.canvas_task.specs.Text.{Text}
use Rattle.canvas_semantics.specs.Compact.{compact}
use Rattle.canvas_semantics.specs.Line.{Line, elements_of}
use Rattle.canvas_semantics.specs.NormalLine.{normal}
use Rattle.canvas_semantics.specs.PlacedLine.{bare}
use Rattle.canvas_semantics.specs.Tree.{Tree, chain}
use Rattle.canvas_values.specs.Writing.{tree_wire}
use Rattle.canvas_envelope.specs.Wire.{line_wire}
use Rattle.canvas_answer.specs.Answers.{AnswersAll}
use Rattle.canvas_answer.specs.Plans.{IsPlanOf}
use Rattle.canvas_answer.specs.declared.answer.Answer.{Answer}

-- the normal line of a canvas, as a signature
abbrev pub IsNormalNode : Tree → Tree → Type 0
IsNormalNode c t = (l : Line) × (chain (elements_of l) ≡ normal c) × (t ≡ compact l)

abbrev pub IsNormalText : Tree → Text → Type 0
IsNormalText c text =
    (t : Tree) × IsNormalNode c t × (text ≡ compact_text (tree_wire t) ++ codes "\n")

-- a plan's line, whose signatures name its tasks, groups and chords by their numbers
abbrev pub numbered_line : Line → Text
numbered_line l = compact_text (line_wire None (bare l)) ++ codes "\n"

-- the normal line, or the plan's if numbers are asked for
abbrev pub IsLineOf : (numbers : Bool) → Tree → Answer → Type 0
IsLineOf false c a = (line : Text) × IsNormalText c line × AnswersAll line 0 a
IsLineOf true c a = (l : Line) × IsPlanOf c l × AnswersAll (numbered_line l) 0 a
