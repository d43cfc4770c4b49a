-- The picture of a run, by the plans of a text.
use Rattle.std.proofs.Common.{List, Result, Ok, Err, Some, IfOk}
use Rattle.canvas_task.specs.Apply.{Behaviour}
use Rattle.canvas_task.specs.Text.{Text}
use Rattle.canvas_semantics.specs.Line.{Line}
use Rattle.canvas_ran.specs.Ran.{fates}
use Rattle.canvas_report.specs.declared.row.Row.{Row}
use Rattle.canvas_answer.specs.Asking.{Asking}
use Rattle.canvas_answer.specs.Pictured.{IsPictured}
use Rattle.canvas_answer.specs.Plans.{ArePlansOf}
use Rattle.canvas_answer.specs.Told.{AreRows}
use Rattle.canvas_answer.specs.declared.answer.Answer.{Answer}
use Rattle.canvas_answer.specs.declared.refusal.Refusal.{Refusal}
use Rattle.canvas_command.specs.Runs.{IsPictureOf}

pub of_plans : (behaviour : Behaviour) (its : Asking) (bytes : Text) (shown run : Line) (r : Result Answer Refusal) → ArePlansOf its bytes shown run
    → IfOk r (λ a. (rows : List Row) × AreRows its run shown behaviour rows × IsPictured (fates behaviour run) (Some rows) shown a)
    → IfOk r (IsPictureOf behaviour its bytes)
of_plans behaviour its bytes shown run (Ok a) plans h = (shown, run, plans, h)
of_plans behaviour its bytes shown run (Err e) plans h = h
