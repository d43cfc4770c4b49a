-- The contents of the fields of a message (Celery's task message protocol, version 2).
use Rattle.std.specs.Prelude.{ℕ, false, List, map, Option, Some, None}
use Rattle.canvas_task.specs.declared.arg.Arg.{Arg}
use Rattle.canvas_rewrite.specs.declared.frozen.FrozenTask.{FrozenTask}
use Rattle.canvas_rewrite.specs.declared.frozen.FrozenLine.{FrozenLine}
use Rattle.canvas_rewrite.specs.declared.frozen.Place.{Place, fold-Place}
use Rattle.canvas_rewrite.specs.declared.frozen.Carried.{Carried, fold-Carried}
use Rattle.canvas_rewrite.specs.FrozenView.{PCarried, p_tasks_of, p_task_view, p_line_view, carried_step, p_end_step, p_line_step, p_task_step, place_step}
use Rattle.canvas_semantics.specs.PlacedLine.{PTask, p_task, PPlace, p_nowhere, PLine, p_stop}
use Rattle.canvas_envelope.specs.Content.{Content}
use Rattle.canvas_envelope.specs.declared.draft.Draft.{Draft}

abbrev pub place_view : Place → PPlace
place_view =
    fold-Place PCarried PLine PLine PTask PPlace carried_step p_end_step p_line_step p_task_step
    place_step

abbrev pub carried_view : Carried → PCarried
carried_view =
    fold-Carried PCarried PLine PLine PTask PPlace carried_step p_end_step p_line_step p_task_step
    place_step

abbrev pub place_seen : Option Place → PPlace
place_seen None = p_nowhere
place_seen (Some p) = place_view p

abbrev pub rest_seen : Option FrozenLine → PLine
rest_seen None = p_stop
rest_seen (Some l) = p_line_view l

abbrev pub content : Option ℕ → ℕ → List ℕ → List Arg → List (List ℕ × Arg) → List FrozenTask
    → List FrozenTask → Option Place → Option FrozenLine → Content
content parent k name args kwargs links errbacks place rest =
    record {
      parent = parent;
      own =
          p_task k (record { name = name; args = args; kwargs = kwargs; immutable = false })
          (p_tasks_of (map p_task_view links)) (p_tasks_of (map p_task_view errbacks))
          (place_seen place);
      rest = rest_seen rest;
    }

abbrev pub draft_view : Draft → Content
draft_view d = content d.parent d.task d.name d.args d.kwargs d.links d.errbacks d.place d.rest
