-- The canvases that can run: those that passed every check, and their normal lines.
use Rattle.std.specs.Prelude.{◌≡◌, ◌≤◌, false, None}
use Rattle.canvas_task.specs.Entries.{Ascends}
use Rattle.canvas_semantics.specs.Tree.{Task, task, Tasks, no_tasks, and_task, Tree, one, chain, group, chord, Trees, no_trees, and_tree, IsFull, count, count_groups}
use Rattle.canvas_semantics.specs.Reach.{reach}
use Rattle.canvas_values.specs.ComposedRefusals.{call_fault}
use Rattle.canvas_semantics.specs.Bounds.{nests_group, most_tasks, most_groups, most_reach}

-- nothing refuses a task's call, and the names of its keyword arguments ascend
abbrev mutual
  pub TaskSound : Task → Type 0
  TaskSound (task k call links errbacks) =
      (call_fault call ≡ None) × Ascends call.kwargs × TasksSound links × TasksSound errbacks

  pub TasksSound : Tasks → Type 0
  TasksSound no_tasks = Unit {0}
  TasksSound (and_task t ts) = TaskSound t × TasksSound ts

abbrev mutual
  pub IsSound : Tree → Type 0
  IsSound (one t) = TaskSound t
  IsSound (chain ts) = AreSound ts
  IsSound (group g ms) = AreSound ms
  IsSound (chord g h b) = AreSound h × IsSound b

  pub AreSound : Trees → Type 0
  AreSound no_trees = Unit {0}
  AreSound (and_tree t ts) = IsSound t × AreSound ts

pub record IsRunnable (t : Tree) : Type 0 where
  pub sound : IsSound t
  -- no chain is empty
  pub full : IsFull t
  -- each member of a group or header ends in a task
  pub members_end : nests_group t ≡ false
  pub few_tasks : count t ≤ most_tasks
  pub few_groups : count_groups t ≤ most_groups
  pub near : reach 0 t ≤ most_reach
