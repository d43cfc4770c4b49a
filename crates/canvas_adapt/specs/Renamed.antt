-- Other names for tasks, by their numbers in file order: a task, then its links, then its error
-- callbacks, then what follows; a header before its body.
use Rattle.std.specs.Prelude.{ℕ, ◌+◌, ◌==◌, if◌then◌else◌, List, [], ◌∷◌, Option, Some, None, string_bytes}
use Rattle.canvas_task.specs.Text.{Text}
use Rattle.canvas_semantics.specs.Tree.{Call, Task, task, Tasks, no_tasks, and_task, Tree, one, chain, group, chord, Trees, no_trees, and_tree, count_task, count_tasks, count, count_all}
use Rattle.canvas_adapt.specs.declared.renames.Rename.{Rename}

-- the other name of the task of a number; if there are several, the first counts
abbrev pub name_for : List Rename → ℕ → Option Text
name_for [] k = None
name_for (r ∷ rs) k = if r.task == k then Some (string_bytes r.name) else name_for rs k

abbrev pub name_or : Option Text → Text → Text
name_or None name = name
name_or (Some other) name = other

abbrev pub call_as : Text → Call → Call
call_as name call =
    record { name = name; args = call.args; kwargs = call.kwargs; immutable = call.immutable }

-- a task whose number is k, and tasks of which the first has the number k
abbrev mutual
  pub rename_task : List Rename → ℕ → Task → Task
  rename_task rs k (task n call links errbacks) =
      task n (call_as (name_or (name_for rs k) call.name) call) (rename_tasks rs (k + 1) links)
      (rename_tasks rs (k + 1 + count_tasks links) errbacks)

  pub rename_tasks : List Rename → ℕ → Tasks → Tasks
  rename_tasks rs k no_tasks = no_tasks
  rename_tasks rs k (and_task t ts) =
      and_task (rename_task rs k t) (rename_tasks rs (k + count_task t) ts)

-- a canvas whose first task has the number k
abbrev mutual
  pub rename_tree : List Rename → ℕ → Tree → Tree
  rename_tree rs k (one t) = one (rename_task rs k t)
  rename_tree rs k (chain ts) = chain (rename_trees rs k ts)
  rename_tree rs k (group g ms) = group g (rename_trees rs k ms)
  rename_tree rs k (chord g h b) =
      chord g (rename_trees rs k h) (rename_tree rs (k + count_all h) b)

  pub rename_trees : List Rename → ℕ → Trees → Trees
  rename_trees rs k no_trees = no_trees
  rename_trees rs k (and_tree t ts) =
      and_tree (rename_tree rs k t) (rename_trees rs (k + count t) ts)

-- a whole canvas: tasks are numbered from 1
abbrev pub renamed : List Rename → Tree → Tree
renamed rs c = rename_tree rs 1 c
