-- The classes of a run's tasks in a list, with one for each task.
use Rattle.std.specs.Prelude.{ℕ, zero, suc, List, Option, Some, None, option_map, slice_get}
use Rattle.std.specs.Borrow.{Bor}
use Rattle.canvas_task.specs.Text.{Text}

abbrev pub seen_class : Option (Option (Bor (List ℕ))) → Option Text
seen_class None = None
seen_class (Some class) = option_map (λ c. c.now) class

-- the class at a place from 0
abbrev pub class_in : List (Option (Bor (List ℕ))) → ℕ → Option Text
class_in classes place = seen_class (slice_get classes place)

-- the class of task k, from 1
abbrev pub class_at : List (Option (Bor (List ℕ))) → ℕ → Option Text
class_at classes zero = None
class_at classes (suc k) = class_in classes k
