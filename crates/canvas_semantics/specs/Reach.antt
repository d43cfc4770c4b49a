-- The depth to which signatures are nested in any message of a run, computed from a normal line.
-- The last task of the line may carry more than its own links and error callbacks, as a member of a
-- header carries the header's body: c is the reach of what it carries, or 0. The measure is this
-- project's own.
use Rattle.std.specs.Prelude.{ℕ, ◌+◌, max}
use Rattle.canvas_semantics.specs.Tree.{Task, task, Tasks, no_tasks, and_task, Tree, one, chain, group, chord, Trees, no_trees, and_tree}

abbrev mutual
  -- the reach of a task whose message carries something of reach c
  pub task_reach : ℕ → Task → ℕ
  task_reach c (task k call links errbacks) =
      1 + max c (max (tasks_reach links) (tasks_reach errbacks))

  pub tasks_reach : Tasks → ℕ
  tasks_reach no_tasks = 0
  tasks_reach (and_task t ts) = max (task_reach 0 t) (tasks_reach ts)

abbrev mutual
  pub reach : ℕ → Tree → ℕ
  reach c (one t) = task_reach c t
  reach c (chain no_trees) = 0
  reach c (chain (and_tree t no_trees)) = reach c t
  reach c (chain (and_tree t ts)) = 1 + max (reach 0 t) (line_reach c ts)
  reach c (group g ms) = 1 + members_reach 0 ms
  reach c (chord g h b) = 1 + max (reach c b) (members_reach (reach c b) h)

  -- the greatest reach of a line's elements; the last element has c
  pub line_reach : ℕ → Trees → ℕ
  line_reach c no_trees = 0
  line_reach c (and_tree t no_trees) = reach c t
  line_reach c (and_tree t ts) = max (reach 0 t) (line_reach c ts)

  pub members_reach : ℕ → Trees → ℕ
  members_reach c no_trees = 0
  members_reach c (and_tree t ts) = max (reach c t) (members_reach c ts)
