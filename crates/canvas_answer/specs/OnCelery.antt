-- The answers for a run on Celery's own workers: the commands for Redis that start it, the keys of
-- its results (celery/backends/base.py), and the report or the picture of what these workers
-- stored.
use Rattle.std.specs.Prelude.{◌≡◌, Bool, true, false, List, [], map, Some, None}
use Rattle.canvas_task.specs.Text.{Text}
use Rattle.canvas_semantics.specs.Evaluation.{State}
use Rattle.canvas_semantics.specs.Line.{Line, count_line, tree_of}
use Rattle.canvas_semantics.specs.PlacedLine.{bare}
use Rattle.canvas_semantics.specs.Report.{report_of}
use Rattle.canvas_semantics.specs.States.{rows_from}
use Rattle.canvas_effects.specs.Effects.{first_messages}
use Rattle.canvas_celery.specs.Keys.{result_keys}
use Rattle.canvas_celery.specs.AsStored.{AllSaid}
use Rattle.canvas_celery.specs.Completed.{Completes}
use Rattle.canvas_celery.specs.Completing.{plan_completed}
use Rattle.canvas_celery.specs.FilledRows.{AreFilled}
use Rattle.canvas_celery.specs.Looks.{looks}
use Rattle.canvas_celery.specs.Pieces.{lines_in}
use Rattle.canvas_celery.specs.Envelope.{message_text}
use Rattle.canvas_celery.specs.ExportView.{setting, naming_of}
use Rattle.canvas_celery.specs.FilledStart.{IsFilledStart}
use Rattle.canvas_celery.specs.Resp.{resp}
use Rattle.canvas_celery.specs.Start.{start}
use Rattle.canvas_celery.specs.Starting.{starting}
use Rattle.canvas_celery.specs.declared.commands.target.Target.{Target}
use Rattle.canvas_report.specs.Wording.{stored_said, explained_said}
use Rattle.canvas_report.specs.declared.row.Row.{Row}
use Rattle.canvas_report.specs.declared.row.Row.TheVariants.{Known}
use Rattle.canvas_report.specs.RowTexts.{stored_lines}
use Rattle.canvas_answer.specs.Answers.{AnswersAll}
use Rattle.canvas_answer.specs.Pictured.{IsPictured}
use Rattle.canvas_answer.specs.declared.answer.Answer.{Answer}
use Rattle.canvas_answer.specs.declared.celery.Collecting.{Collecting}
use Rattle.canvas_answer.specs.declared.celery.OnCelery.{OnCelery}
use Rattle.canvas_answer.specs.declared.celery.OnCelery.TheVariants.{Export, Keys, Collect}
use Rattle.canvas_answer.specs.declared.reporting.Format.{Format}
use Rattle.canvas_answer.specs.declared.reporting.Format.TheVariants.{Plain, Json, Explained}

-- the commands that start a plan's line
abbrev pub commands_of : (run : Text) → Target → Line → Text
commands_of run target l =
    resp (start run (setting target) (starting (bare l))
    (map (message_text (naming_of run l) target.queue.now) (first_messages l)))

-- ---- the workers' stored results

-- Rows that are completed if that is asked for: each is as it was stored, or was pending and shows
-- the failure that reaches it. Those of the engine's own tasks are those of evaluating the canvas.
abbrev pub AreCompleted : (completes : Bool) → Line → (stored rows : List Row) → Type 0
AreCompleted false l stored rows = rows ≡ stored
AreCompleted true l stored rows =
    AreFilled stored rows
    × (looks rows ≡ plan_completed l (looks stored))
    × ((old : List State) → stored ≡ map (λ s. Known s) old
    → (new : List State) × (rows ≡ map (λ s. Known s) new) × Completes l old new)

-- the rows that results give, each from its own line
abbrev pub AreReported : (run : Text) → (completes : Bool) → (results : Text) → Line → List Row
    → Type 0
AreReported run completes results l rows =
    (stored : List Row) × AllSaid run (count_line l) 1 (lines_in results) stored
    × AreCompleted completes l stored rows

-- the text of rows in each form; the rows of the engine's own tasks have the report of a run
abbrev pub IsStoredText : Format → Line → List Row → Text → Type 0
IsStoredText Plain l rows text =
    (text ≡ stored_said rows (tree_of l))
    × ((ss : List State) → rows ≡ map (λ s. Known s) ss
    → text ≡ report_of (tree_of l) (rows_from 1 ss))
IsStoredText Json l rows text = text ≡ stored_lines [] [] None rows (tree_of l)
IsStoredText Explained l rows text = text ≡ explained_said [] rows (tree_of l)

abbrev pub IsCollected : (run : Text) → Collecting → (results : Text) → Line → Answer → Type 0
IsCollected run collecting results l a =
    (rows : List Row) × AreReported run collecting.completes results l rows
    × ((text : Text) × IsStoredText collecting.output.form l rows text × AnswersAll text 0 a)

abbrev pub IsStoredPicture : (run : Text) → (completes : Bool) → (results : Text) → Line → Answer
    → Type 0
IsStoredPicture run completes results l a =
    (rows : List Row) × AreReported run completes results l rows × IsPictured [] (Some rows) l a

-- the commands that start a plan's line with the values of some file
abbrev pub IsFilledAnswer : (run : Text) → Target → Line → Answer → Type 0
IsFilledAnswer run target l a =
    (values : Text) × (bytes : Text) × IsFilledStart values run (setting target) l bytes
    × AnswersAll bytes 0 a

-- For a report, there are results that the input gave.
abbrev pub IsOnCelery : (run : Text) → OnCelery → Line → Answer → Type 0
IsOnCelery run (Export target None) l a = AnswersAll (commands_of run target l) 0 a
IsOnCelery run (Export target (Some file)) l a = IsFilledAnswer run target l a
IsOnCelery run (Keys prefix) l a = AnswersAll (result_keys run prefix.now (count_line l)) 0 a
IsOnCelery run (Collect collecting) l a = (results : Text) × IsCollected run collecting results l a
