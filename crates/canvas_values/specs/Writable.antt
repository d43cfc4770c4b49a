-- The invariant of a canvas.
use Rattle.std.specs.Prelude.{◌≡◌, None}
use Rattle.canvas_task.specs.Entries.{Ascends}
use Rattle.canvas_values.specs.ComposedRefusals.{node_fault}
use Rattle.canvas_semantics.specs.Tree.{Task, task, Tasks, no_tasks, and_task, Tree, one, chain, group, chord, Trees, no_trees, and_tree}

-- ---- not numbered yet, and the names of keyword arguments ascend, each once

abbrev mutual
  pub TaskComposed : Task → Type 0
  TaskComposed (task k call links errbacks) =
      (k ≡ 0) × Ascends call.kwargs × TasksComposed links × TasksComposed errbacks

  pub TasksComposed : Tasks → Type 0
  TasksComposed no_tasks = Unit {0}
  TasksComposed (and_task t ts) = TaskComposed t × TasksComposed ts

abbrev mutual
  pub IsComposed : Tree → Type 0
  IsComposed (one t) = TaskComposed t
  IsComposed (chain ts) = AreComposed ts
  IsComposed (group g ms) = (g ≡ 0) × AreComposed ms
  IsComposed (chord g h b) = (g ≡ 0) × AreComposed h × IsComposed b

  pub AreComposed : Trees → Type 0
  AreComposed no_trees = Unit {0}
  AreComposed (and_tree t ts) = IsComposed t × AreComposed ts

-- a canvas: nothing refuses it, and it is composed
pub record IsCanvas (c : Tree) : Type 0 where
  pub fine : node_fault c ≡ None
  pub composed : IsComposed c
