-- The last tasks of lines, if there are any.
use Rattle.std.specs.Prelude.{ℕ, List, map, Option, Some, None}
use Rattle.canvas_semantics.specs.PlacedLine.{p_stop}
use Rattle.canvas_rewrite.specs.FrozenView.{p_steps, p_task_view}
use Rattle.canvas_rewrite.specs.declared.frozen.FrozenTask.{FrozenTask}
use Rattle.canvas_effects.specs.Placing.{last_task}

abbrev pub or_zero : Option ℕ → ℕ
or_zero None = 0
or_zero (Some k) = k

-- the number of the last of some tasks
abbrev pub last_number : List FrozenTask → ℕ
last_number ts = last_task 0 (p_steps (map p_task_view ts) p_stop)
