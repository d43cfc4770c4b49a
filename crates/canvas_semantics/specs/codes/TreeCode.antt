-- The encoding of trees, so that a type may have trees as its value.
use Rattle.std.specs.Prelude.{◌≡◌, ℕ, ℤ, Bool, true, false, List, [], ◌⊎◌, refl}
use Rattle.std.proofs.Common.{inl, inr, ap, ap₂}
use Rattle.std.specs.Coded.{Coded, code_by, coded_ℕ, coded_ℤ, coded_bool, coded_list, coded×, coded⊎}
use Rattle.canvas_task.specs.declared.arg.Arg.{Arg}
use Rattle.canvas_task.specs.declared.arg.Arg.TheVariants as arg
use Rattle.canvas_semantics.specs.codes.Nest.{Nest, leaf, branch, nest_code}
use Rattle.canvas_semantics.specs.Tree.{Call, Task, task, Tasks, no_tasks, and_task, Tree, one, chain, group, chord, Trees, no_trees, and_tree}

-- ---- arguments and calls

abbrev ArgKinds : Type 0
ArgKinds = ℤ ⊎ (List ℤ ⊎ List ℕ)

abbrev kind_of : Arg → ArgKinds
kind_of (arg.Num n) = inl n
kind_of (arg.List ns) = inr (inl ns)
kind_of (arg.Text s) = inr (inr s)

abbrev of_kind : ArgKinds → Arg
of_kind (inl n) = arg.Num n
of_kind (inr (inl ns)) = arg.List ns
of_kind (inr (inr s)) = arg.Text s

pub of_kind_of : (a : Arg) → of_kind (kind_of a) ≡ a
of_kind_of (arg.Num n) = refl
of_kind_of (arg.List ns) = refl
of_kind_of (arg.Text s) = refl

abbrev pub arg_code : Coded Arg
arg_code =
    code_by ArgKinds (coded⊎ coded_ℤ (coded⊎ (coded_list coded_ℤ) (coded_list coded_ℕ))) kind_of
    of_kind of_kind_of

abbrev CallParts : Type 0
CallParts = List ℕ × (List Arg × (List (List ℕ × Arg) × Bool))

abbrev pub call_code : Coded Call
call_code =
    code_by CallParts (coded× (coded_list coded_ℕ) (coded× (coded_list arg_code)
    (coded× (coded_list (coded× (coded_list coded_ℕ) arg_code)) coded_bool)))
    (λ (c : Call). (c.name, (c.args, (c.kwargs, c.immutable))))
    (λ p. record { name = p.0; args = p.1.0; kwargs = p.1.1.0; immutable = p.1.1.1 }) (λ _. refl)

-- ---- tasks and trees, as data with two parts at each place

-- a task's number and call; a group's number; a chord's number; and for a single task and a chain,
-- whether it is a chain
abbrev Label : Type 0
Label = (ℕ × Call) ⊎ (ℕ ⊎ (ℕ ⊎ Bool))

abbrev label_code : Coded Label
label_code = coded⊎ (coded× coded_ℕ call_code) (coded⊎ coded_ℕ (coded⊎ coded_ℕ coded_bool))

-- the label of a list's first element and its rest
abbrev pair : Label
pair = inr (inr (inr false))

abbrev mutual
  task_to : Task → Nest Label
  task_to (task k call links errbacks) = branch (inl (k, call)) (tasks_to links) (tasks_to errbacks)

  tasks_to : Tasks → Nest Label
  tasks_to no_tasks = leaf
  tasks_to (and_task t ts) = branch pair (task_to t) (tasks_to ts)

abbrev mutual
  tree_to : Tree → Nest Label
  tree_to (one t) = branch (inr (inr (inr false))) (task_to t) leaf
  tree_to (chain ts) = branch (inr (inr (inr true))) (trees_to ts) leaf
  tree_to (group g ms) = branch (inr (inl g)) (trees_to ms) leaf
  tree_to (chord g h b) = branch (inr (inr (inl g))) (trees_to h) (tree_to b)

  trees_to : Trees → Nest Label
  trees_to no_trees = leaf
  trees_to (and_tree t ts) = branch pair (tree_to t) (trees_to ts)

-- the values for codes of no task, and of no tree
abbrev no_task : Task
no_task = task 0 (record { name = []; args = []; kwargs = []; immutable = false }) no_tasks no_tasks

abbrev no_tree : Tree
no_tree = chain no_trees

abbrev mutual
  task_from : Nest Label → Task
  task_from (branch (inl l) a b) = task l.0 l.1 (tasks_from a) (tasks_from b)
  task_from n = no_task

  tasks_from : Nest Label → Tasks
  tasks_from leaf = no_tasks
  tasks_from (branch l a b) = and_task (task_from a) (tasks_from b)

abbrev mutual
  tree_from : Nest Label → Tree
  tree_from (branch (inr (inl g)) a b) = group g (trees_from a)
  tree_from (branch (inr (inr (inl g))) a b) = chord g (trees_from a) (tree_from b)
  tree_from (branch (inr (inr (inr true))) a b) = chain (trees_from a)
  tree_from (branch (inr (inr (inr false))) a b) = one (task_from a)
  tree_from n = no_tree

  trees_from : Nest Label → Trees
  trees_from leaf = no_trees
  trees_from (branch l a b) = and_tree (tree_from a) (trees_from b)

mutual
  pub task_back : (t : Task) → task_from (task_to t) ≡ t
  task_back (task k call links errbacks) =
      ap₂ (task k call) (tasks_back links) (tasks_back errbacks)

  tasks_back : (ts : Tasks) → tasks_from (tasks_to ts) ≡ ts
  tasks_back no_tasks = refl
  tasks_back (and_task t ts) = ap₂ and_task (task_back t) (tasks_back ts)

mutual
  pub tree_back : (t : Tree) → tree_from (tree_to t) ≡ t
  tree_back (one t) = ap one (task_back t)
  tree_back (chain ts) = ap chain (trees_back ts)
  tree_back (group g ms) = ap (group g) (trees_back ms)
  tree_back (chord g h b) = ap₂ (chord g) (trees_back h) (tree_back b)

  trees_back : (ts : Trees) → trees_from (trees_to ts) ≡ ts
  trees_back no_trees = refl
  trees_back (and_tree t ts) = ap₂ and_tree (tree_back t) (trees_back ts)

abbrev pub tree_code : Coded Tree
tree_code = code_by (Nest Label) (nest_code label_code) tree_to tree_from tree_back
