-- The calls of a canvas in file order: for each signature that of its task, and None for a chain,
-- group or chord (Celery user guide, Canvas: signatures).
use Rattle.std.specs.Prelude.{◌≡◌, List, [], ◌∷◌, ◌++◌, map, Option, Some, None}
use Rattle.std.specs.Borrow.{Bor}
use Rattle.canvas_semantics.specs.Tree.{Call, Task, task, Tasks, no_tasks, and_task, Tree, one, chain, group, chord, Trees, no_trees, and_tree}
use Rattle.canvas_values.specs.ComposedRefusals.{its_call}
use Rattle.canvas_values.specs.SignatureView.{task_view}
use Rattle.canvas_values.specs.declared.task_sig.TaskSig.{TaskSig}
use Rattle.canvas_check.specs.declared.task_listing.Listing.{Listing}

-- a task, its links and its error callbacks
abbrev mutual
  pub task_calls : Task → List (Option Call)
  task_calls (task k call links errbacks) = Some call ∷ tasks_calls links ++ tasks_calls errbacks

  pub tasks_calls : Tasks → List (Option Call)
  tasks_calls no_tasks = []
  tasks_calls (and_task t ts) = task_calls t ++ tasks_calls ts

abbrev mutual
  pub calls : Tree → List (Option Call)
  calls (one t) = task_calls t
  calls (chain ts) = None ∷ all_calls ts
  calls (group g ms) = None ∷ all_calls ms
  calls (chord g h b) = None ∷ all_calls h ++ calls b

  pub all_calls : Trees → List (Option Call)
  all_calls no_trees = []
  all_calls (and_tree t ts) = calls t ++ all_calls ts

-- ---- the contents of a listing

abbrev pub call_at : Option (Bor TaskSig) → Option Call
call_at None = None
call_at (Some sig) = Some (its_call (task_view sig.now))

-- these calls were appended
abbrev pub Lists : List (Option Call) → Listing → Listing → Type 0
Lists added l l' = map call_at l'.tasks.items ≡ map call_at l.tasks.items ++ added
