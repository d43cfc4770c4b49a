-- The answer of `canvas graph`: the picture of a plan's line, in the language of Graphviz.
use Rattle.std.specs.Prelude.{List, Option}
use Rattle.canvas_task.specs.Text.{Text}
use Rattle.canvas_semantics.specs.Line.{Line}
use Rattle.canvas_report.specs.Fates.{Fates}
use Rattle.canvas_report.specs.Nodes.{looks}
use Rattle.canvas_report.specs.Picture.{IsPicture}
use Rattle.canvas_report.specs.declared.row.Row.{Row}
use Rattle.canvas_answer.specs.Answers.{AnswersAll}
use Rattle.canvas_answer.specs.declared.answer.Answer.{Answer}

-- each node looks as these fates and rows say of its task, if there are any
abbrev pub IsPictured : Fates → Option (List Row) → Line → Answer → Type 0
IsPictured fates rows l a =
    (text : Text) × IsPicture (looks fates rows) l text × AnswersAll text 0 a
