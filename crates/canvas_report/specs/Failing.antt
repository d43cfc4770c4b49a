-- Whether the result of a canvas is a failure (Celery user guide, Canvas: the result of a group has
-- failed if that of one of its tasks has).
use Rattle.std.specs.Prelude.{◌||◌, Bool, true, false, [], ◌∷◌, Some, None}
use Rattle.canvas_task.specs.declared.outcome.Outcome.TheVariants.{Success, Failure}
use Rattle.canvas_semantics.specs.Evaluation.{State, Rows}

abbrev pub has_failed : State → Bool
has_failed None = false
has_failed (Some (Success n)) = false
has_failed (Some (Failure f)) = true

abbrev pub any_failed : Rows → Bool
any_failed [] = false
any_failed (e ∷ es) = has_failed e.1 || any_failed es
