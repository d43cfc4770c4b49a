-- Lists of tasks and of signatures with other names, one after another.
use Rattle.std.specs.Prelude.{ℕ, ◌+◌, List, [], ◌∷◌}
use Rattle.canvas_semantics.specs.Tree.{Task, Tree, count_task, count}
use Rattle.canvas_adapt.specs.Renamed.{rename_task, rename_tree}
use Rattle.canvas_adapt.specs.declared.renames.Rename.{Rename}

abbrev pub tasks_renamed : List Rename → ℕ → List Task → List Task
tasks_renamed rs k [] = []
tasks_renamed rs k (t ∷ ts) = rename_task rs k t ∷ tasks_renamed rs (k + count_task t) ts

abbrev pub trees_renamed : List Rename → ℕ → List Tree → List Tree
trees_renamed rs k [] = []
trees_renamed rs k (t ∷ ts) = rename_tree rs k t ∷ trees_renamed rs (k + count t) ts

-- the number of tasks in signatures
abbrev pub trees_in : List Tree → ℕ
trees_in [] = 0
trees_in (t ∷ ts) = count t + trees_in ts
