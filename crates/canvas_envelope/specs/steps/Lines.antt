-- Lines by their tasks and their end, and a message by its own task and the rest of its line.
use Rattle.std.specs.Prelude.{List, map, Option, Some, None, Box}
use Rattle.std.specs.declared.alloc.Global.{Global}
use Rattle.canvas_semantics.specs.PlacedLine.{PLine, p_stop}
use Rattle.canvas_rewrite.specs.declared.frozen.FrozenTask.{FrozenTask}
use Rattle.canvas_rewrite.specs.declared.frozen.FrozenEnd.{FrozenEnd}
use Rattle.canvas_rewrite.specs.FrozenView.{p_steps, p_task_view, p_end_view}
use Rattle.canvas_envelope.specs.Content.{Content}

-- the end of a line
abbrev pub end_seen : Option (Box FrozenEnd Global) → PLine
end_seen None = p_stop
end_seen (Some e) = p_end_view e.value

abbrev pub line_by : List FrozenTask → Option (Box FrozenEnd Global) → PLine
line_by ts tail = p_steps (map p_task_view ts) (end_seen tail)

-- the message of a task, with this rest of its line
abbrev pub followed_by : Content → PLine → Content
followed_by c rest = record { parent = c.parent; own = c.own; rest = rest }
