-- The jobs of a worker as data: the effects of `Effects` (Celery user guide, Canvas).
use Rattle.std.specs.Prelude.{[], ◌∷◌, None, option_map}
use Rattle.canvas_effects.specs.Effects.{Effect, Part}
use Rattle.canvas_envelope.specs.MessageView.{carried_view}
use Rattle.canvas_effects.specs.declared.todo.PartCall.{PartCall}
use Rattle.canvas_effects.specs.declared.todo.Todo.{Todo}
use Rattle.canvas_effects.specs.declared.todo.Onward.{Onward}
use Rattle.canvas_effects.specs.declared.todo.Onward.TheVariants as onward

abbrev pub part_view : PartCall → Part
part_view p = record { chord = p.group; task = p.task; carried = carried_view p.chord }

abbrev pub todo_view : Todo → Effect
todo_view t =
    record { stores = t.stores; messages = t.messages; part = option_map part_view t.part }

abbrev pub onward_view : Onward → Effect
onward_view (onward.Next m) = record { stores = []; messages = m ∷ []; part = None }
onward_view (onward.Todo t) = todo_view t
