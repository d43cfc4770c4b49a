-- The program's answer to a request about one canvas, given the bytes of its text and the tasks
-- that answer its calls.
use Rattle.std.specs.Prelude.{[], None}
use Rattle.canvas_task.specs.Apply.{Behaviour}
use Rattle.canvas_task.specs.Text.{Text}
use Rattle.canvas_engine.specs.Evidence.{IsThreadFault}
use Rattle.canvas_semantics.specs.Line.{Line}
use Rattle.canvas_semantics.specs.Tree.{Tree}
use Rattle.canvas_answer.specs.Answers.{AnswersAll}
use Rattle.canvas_answer.specs.Asking.{Asking}
use Rattle.canvas_answer.specs.Normal.{IsLineOf}
use Rattle.canvas_answer.specs.OnCelery.{IsOnCelery}
use Rattle.canvas_answer.specs.Pictured.{IsPictured}
use Rattle.canvas_answer.specs.Plans.{ArePlansOf, IsAdaptedText, IsCanvasOf, IsSpelled, IsTextPlan}
use Rattle.canvas_answer.specs.declared.answer.Answer.{Answer}
use Rattle.canvas_answer.specs.declared.command_line.Verb.{Verb}
use Rattle.canvas_answer.specs.declared.command_line.Verb.TheVariants as verb
use Rattle.canvas_answer.specs.declared.graph.States.{States}
use Rattle.canvas_answer.specs.declared.graph.States.TheVariants as states
use Rattle.canvas_command.specs.Messages.{ArePublished}
use Rattle.canvas_command.specs.Runs.{IsByTurns, IsPictureOf, IsRunOf}

module _ (behaviour : Behaviour) (its : Asking) (bytes : Text) where
  -- no clause is about a picture of results that Celery's workers stored
  abbrev pub IsPictureAsked : States → Answer → Type 0
  IsPictureAsked states.None a =
      (shown : Line) × (run : Line) × ArePlansOf its bytes shown run × IsPictured [] None shown a
  IsPictureAsked (states.Run workers) a = IsPictureOf behaviour its bytes a
  IsPictureAsked (states.Stored stored) a = Unit {0}

  -- no clause is about statistics and warnings
  abbrev pub IsAnswerTo : Verb → Answer → Type 0
  IsAnswerTo (verb.Run workers output) a =
      IsRunOf behaviour its bytes (IsThreadFault workers) output.form output.fails None a
  IsAnswerTo (verb.Turns workers turns again steps output) a =
      IsByTurns behaviour its bytes workers turns.items steps output.form output.fails a
  IsAnswerTo (verb.Normal numbers) a =
      (c : Tree) × IsCanvasOf its.adapts bytes c × IsLineOf numbers c a
  IsAnswerTo (verb.Check output) a = Unit {0}
  IsAnswerTo (verb.Adapt renames) a =
      (made : Text) × IsAdaptedText bytes renames.items made × AnswersAll made 0 a
  IsAnswerTo (verb.Graph states) a = IsPictureAsked states a
  IsAnswerTo (verb.Messages workers turns calls) a =
      (shown : Line) × (run : Line) × ArePlansOf its bytes shown run
      × ArePublished behaviour shown run workers turns.items calls a
  IsAnswerTo (verb.Celery run asked) a =
      (made : Text) × IsSpelled its.adapts bytes made
      × ((l : Line) × IsTextPlan made l × IsOnCelery run.digits asked l a)
