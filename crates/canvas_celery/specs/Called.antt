-- The rows of the tasks that evaluating a canvas calls: those into which a result flows, with the
-- links of the ones that succeed and the error callbacks of the ones that fail (Celery user guide,
-- Canvas). A task that an exception skips isn't called, nor is one in which a failed header raises
-- its own; these rows follow from those of the called tasks.
use Rattle.std.specs.Prelude.{ℕ, [], ◌∷◌, ◌++◌, Option, Some, None}
use Rattle.canvas_task.specs.Apply.{Behaviour}
use Rattle.canvas_semantics.specs.Tree.{Task, task, Tasks, no_tasks, and_task}
use Rattle.canvas_semantics.specs.Tree.{Tree, one, chain, group, chord, Trees, no_trees, and_tree}
use Rattle.canvas_semantics.specs.Evaluation.{Flow, skip, raised, State, Rows, state}
use Rattle.canvas_semantics.specs.Evaluation.{to_links, to_errbacks, eval, as_group, member_rows}

-- the row of a task, if it is called with what flows into it
abbrev pub if_called : Option Flow → ℕ → State → Rows
if_called None k s = []
if_called (Some (skip f)) k s = []
if_called (Some (raised f)) k s = []
if_called (Some x) k s = (k, s) ∷ []

module _ (behaviour : Behaviour) where
  abbrev mutual
    pub task_called : Task → Option Flow → Rows
    task_called (task k call links errbacks) x =
        if_called x k (state behaviour call x)
        ++ (tasks_called links (to_links (state behaviour call x))
        ++ tasks_called errbacks (to_errbacks k x (state behaviour call x)))

    pub tasks_called : Tasks → Option Flow → Rows
    tasks_called no_tasks x = []
    tasks_called (and_task t ts) x = task_called t x ++ tasks_called ts x

  abbrev mutual
    pub called : Tree → Flow → Rows
    called (one t) x = task_called t (Some x)
    called (chain ts) x = chain_called ts x
    called (group g ms) x = members_called ms x
    called (chord g h b) x =
        members_called h x ++ called b (as_group x h (member_rows behaviour h x)).out

    pub chain_called : Trees → Flow → Rows
    chain_called no_trees x = []
    chain_called (and_tree t ts) x = called t x ++ chain_called ts (eval behaviour t x).out

    pub members_called : Trees → Flow → Rows
    members_called no_trees x = []
    members_called (and_tree t ts) x = called t x ++ members_called ts x
