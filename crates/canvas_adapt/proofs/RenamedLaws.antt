-- With no other names a canvas is the same, and other names leave the number of its tasks as it is.
use Rattle.std.proofs.Common.{◌≡◌, ℕ, ◌+◌, List, [], refl, ap}
use Rattle.canvas_semantics.specs.Tree.{Task, task, Tasks, no_tasks, and_task, Tree, one, chain, group, chord, Trees, no_trees, and_tree, count_task, count_tasks, count, count_all}
use Rattle.canvas_adapt.specs.declared.renames.Rename.{Rename}
use Rattle.canvas_adapt.specs.Renamed.{rename_task, rename_tasks, rename_tree, rename_trees}

mutual
  same_task : (k : ℕ) (t : Task) → rename_task [] k t ≡ t
  same_task k (task n call ls es) = λ i. task n call (same_tasks (k + 1) ls i) (same_tasks (k + 1 + count_tasks ls) es i)

  same_tasks : (k : ℕ) (ts : Tasks) → rename_tasks [] k ts ≡ ts
  same_tasks k no_tasks = refl
  same_tasks k (and_task t ts) = λ i. and_task (same_task k t i) (same_tasks (k + count_task t) ts i)

mutual
  pub same_tree : (k : ℕ) (t : Tree) → rename_tree [] k t ≡ t
  same_tree k (one t) = ap one (same_task k t)
  same_tree k (chain ts) = ap chain (same_trees k ts)
  same_tree k (group g ms) = ap (group g) (same_trees k ms)
  same_tree k (chord g h b) = λ i. chord g (same_trees k h i) (same_tree (k + count_all h) b i)

  same_trees : (k : ℕ) (ts : Trees) → rename_trees [] k ts ≡ ts
  same_trees k no_trees = refl
  same_trees k (and_tree t ts) = λ i. and_tree (same_tree k t i) (same_trees (k + count t) ts i)

mutual
  as_many_task : (rs : List Rename) (k : ℕ) (t : Task) → count_task (rename_task rs k t) ≡ count_task t
  as_many_task rs k (task n call ls es) = λ i. 1 + as_many_tasks rs (k + 1) ls i + as_many_tasks rs (k + 1 + count_tasks ls) es i

  as_many_tasks : (rs : List Rename) (k : ℕ) (ts : Tasks) → count_tasks (rename_tasks rs k ts) ≡ count_tasks ts
  as_many_tasks rs k no_tasks = refl
  as_many_tasks rs k (and_task t ts) = λ i. as_many_task rs k t i + as_many_tasks rs (k + count_task t) ts i

mutual
  pub as_many : (rs : List Rename) (k : ℕ) (t : Tree) → count (rename_tree rs k t) ≡ count t
  as_many rs k (one t) = as_many_task rs k t
  as_many rs k (chain ts) = as_many_trees rs k ts
  as_many rs k (group g ms) = as_many_trees rs k ms
  as_many rs k (chord g h b) = λ i. as_many_trees rs k h i + as_many rs (k + count_all h) b i

  as_many_trees : (rs : List Rename) (k : ℕ) (ts : Trees) → count_all (rename_trees rs k ts) ≡ count_all ts
  as_many_trees rs k no_trees = refl
  as_many_trees rs k (and_tree t ts) = λ i. as_many rs k t i + as_many_trees rs (k + count t) ts i
