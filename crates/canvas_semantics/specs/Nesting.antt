-- The depth to which signatures are nested in a canvas as written. The measure is this project's
-- own.
use Rattle.std.specs.Prelude.{ℕ, ◌+◌, max}
use Rattle.canvas_semantics.specs.Tree.{Task, task, Tasks, no_tasks, and_task, Tree, one, chain, group, chord, Trees, no_trees, and_tree}

abbrev mutual
  pub task_nesting : Task → ℕ
  task_nesting (task k call links errbacks) = 1 + max (tasks_nesting links) (tasks_nesting errbacks)

  pub tasks_nesting : Tasks → ℕ
  tasks_nesting no_tasks = 0
  tasks_nesting (and_task t ts) = max (task_nesting t) (tasks_nesting ts)

abbrev mutual
  pub nesting : Tree → ℕ
  nesting (one t) = task_nesting t
  nesting (chain ts) = 1 + all_nesting ts
  nesting (group g ms) = 1 + all_nesting ms
  nesting (chord g h b) = 1 + max (all_nesting h) (nesting b)

  pub all_nesting : Trees → ℕ
  all_nesting no_trees = 0
  all_nesting (and_tree t ts) = max (nesting t) (all_nesting ts)
