-- Signatures that can be written and read again: those without a fault that were composed.
use Rattle.std.proofs.Common.{◌≡◌, ℕ, List, [], ◌∷◌, Bool, true, false, Option, Some, None, refl}
use Rattle.std.specs.Prelude.{ℤ, not}
use Rattle.std.specs.List.{list_all}
use Rattle.canvas_task.specs.Name.{name_ok}
use Rattle.canvas_task.specs.Numbers.{in_range}
use Rattle.canvas_task.specs.Entries.{Ascends}
use Rattle.canvas_task.specs.declared.arg.Arg.{Arg}
use Rattle.canvas_task.specs.declared.arg.Arg.TheVariants as arg
use Rattle.canvas_values.specs.declared.fault.SigFault.{SigFault}
use Rattle.canvas_values.specs.declared.fault.SigFault.TheVariants.{NotSignature, BadNumber}
use Rattle.canvas_values.specs.LimitRefusals.{tree_fault}
use Rattle.canvas_values.specs.ComposedRefusals.{arg_ok, call_numbers_ok, call_fault, task_fault, tasks_fault, signatures_fault, all_fault}
use Rattle.canvas_values.specs.Answers.{◌or_else◌, fault_if}
use Rattle.canvas_semantics.specs.Tree.{Call, Task, task, Tasks, no_tasks, and_task, Tree, one, chain, group, chord, Trees, no_trees, and_tree}
use Rattle.canvas_values.specs.Writable.{TaskComposed, TasksComposed, IsComposed, AreComposed, IsCanvas}
use Rattle.canvas_values.proofs.FittingCalls.{NumbersFit, ArgFits, ArgsFit, KwargsFit, CallFits}
use Rattle.canvas_values.proofs.ComposedLemmas.{both, args_fit, kwargs_fit}

abbrev mutual
  pub TaskFits : Task → Type 0
  TaskFits (task k call links errbacks) = (k ≡ 0) × CallFits call × TasksFit links × TasksFit errbacks

  pub TasksFit : Tasks → Type 0
  TasksFit no_tasks = Unit {0}
  TasksFit (and_task t ts) = TaskFits t × TasksFit ts

-- no chain is empty
abbrev mutual
  pub TreeFits : Tree → Type 0
  TreeFits (one t) = TaskFits t
  TreeFits (chain no_trees) = ⊥
  TreeFits (chain (and_tree t ts)) = TreeFits t × TreesFit ts
  TreeFits (group g ms) = (g ≡ 0) × TreesFit ms
  TreeFits (chord g h b) = (g ≡ 0) × TreesFit h × TreeFits b

  pub TreesFit : Trees → Type 0
  TreesFit no_trees = Unit {0}
  TreesFit (and_tree t ts) = TreeFits t × TreesFit ts

-- ---- those without a fault

neither_fault : (f g : Option SigFault) → (f or_else g) ≡ None → (f ≡ None) × (g ≡ None)
neither_fault None g h = (refl, h)
neither_fault (Some e) g h = absurd cc

no_fault_if : (b : Bool) (e : SigFault) → fault_if (not b) e ≡ None → b ≡ true
no_fault_if true e h = refl
no_fault_if false e h = absurd cc

pub call_fits : (call : Call) → call_fault call ≡ None → Ascends call.kwargs → CallFits call
call_fits call h o =
    let parts = neither_fault (fault_if (not (name_ok call.name)) NotSignature) _ h in
    let numbers = both (list_all arg_ok call.args) _ (no_fault_if (call_numbers_ok call) BadNumber parts.1) in
    record {
      name = no_fault_if
          (name_ok call.name) NotSignature parts.0;
      args = args_fit call.args numbers.0;
      kwargs = kwargs_fit call.kwargs numbers.1;
      ordered = o;
    }

mutual
  task_fits : (t : Task) → task_fault t ≡ None → TaskComposed t → TaskFits t
  task_fits (task k call links errbacks) h c =
      let parts = neither_fault (call_fault call) _ h in
      let inside = neither_fault (tasks_fault links) (tasks_fault errbacks) parts.1 in
      (c.0, call_fits call parts.0 c.1, tasks_fit links inside.0 c.2, tasks_fit errbacks inside.1 c.3)

  tasks_fit : (ts : Tasks) → tasks_fault ts ≡ None → TasksComposed ts → TasksFit ts
  tasks_fit no_tasks h c = tt
  tasks_fit (and_task t ts) h c =
      let parts = neither_fault (task_fault t) (tasks_fault ts) h in
      (task_fits t parts.0 c.0, tasks_fit ts parts.1 c.1)

mutual
  tree_fits : (t : Tree) → signatures_fault t ≡ None → IsComposed t → TreeFits t
  tree_fits (one t) h c = task_fits t h c
  tree_fits (chain no_trees) h c = absurd cc
  tree_fits (chain (and_tree t ts)) h c =
      let parts = neither_fault (signatures_fault t) (all_fault ts) h in
      (tree_fits t parts.0 c.0, trees_fit ts parts.1 c.1)
  tree_fits (group g ms) h c = (c.0, trees_fit ms h c.1)
  tree_fits (chord g ms b) h c =
      let parts = neither_fault (all_fault ms) (signatures_fault b) h in
      (c.0, trees_fit ms parts.0 c.1, tree_fits b parts.1 c.2)

  trees_fit : (ts : Trees) → all_fault ts ≡ None → AreComposed ts → TreesFit ts
  trees_fit no_trees h c = tt
  trees_fit (and_tree t ts) h c =
      let parts = neither_fault (signatures_fault t) (all_fault ts) h in
      (tree_fits t parts.0 c.0, trees_fit ts parts.1 c.1)

pub canvas_fits : (c : Tree) → IsCanvas c → TreeFits c
canvas_fits c canvas = tree_fits c (neither_fault (signatures_fault c) (tree_fault c) canvas.fine).0 canvas.composed

pub canvas_within : (c : Tree) → IsCanvas c → tree_fault c ≡ None
canvas_within c canvas = (neither_fault (signatures_fault c) (tree_fault c) canvas.fine).1

-- ---- and back

numbers_are : (ns : List ℤ) → NumbersFit ns → list_all in_range ns ≡ true
numbers_are [] h = refl
numbers_are (n ∷ ns) h = rw (h.0, numbers_are ns h.1) refl

arg_is : (a : Arg) → ArgFits a → arg_ok a ≡ true
arg_is (arg.Num n) h = h
arg_is (arg.List ns) h = numbers_are ns h
arg_is (arg.Text s) h = refl

args_are : (args : List Arg) → ArgsFit args → list_all arg_ok args ≡ true
args_are [] h = refl
args_are (a ∷ args) h = rw (arg_is a h.0, args_are args h.1) refl

kwargs_are : (es : List (List ℕ × Arg)) → KwargsFit es → list_all (λ e. arg_ok e.1) es ≡ true
kwargs_are [] h = refl
kwargs_are (e ∷ es) h = rw (arg_is e.1 h.0, kwargs_are es h.1) refl

pub call_fine : (call : Call) → CallFits call → call_fault call ≡ None
call_fine call fits = rw (fits.name, args_are call.args fits.args, kwargs_are call.kwargs fits.kwargs) refl

mutual
  task_fine : (t : Task) → TaskFits t → (task_fault t ≡ None) × TaskComposed t
  task_fine (task k call links errbacks) fits =
      let l = tasks_fine links fits.2 in
      let e = tasks_fine errbacks fits.3 in
      (rw (call_fine call fits.1, l.0, e.0) refl, (fits.0, fits.1.ordered, l.1, e.1))

  tasks_fine : (ts : Tasks) → TasksFit ts → (tasks_fault ts ≡ None) × TasksComposed ts
  tasks_fine no_tasks fits = (refl, tt)
  tasks_fine (and_task t ts) fits =
      let a = task_fine t fits.0 in
      let b = tasks_fine ts fits.1 in
      (rw (a.0, b.0) refl, (a.1, b.1))

mutual
  tree_fine : (t : Tree) → TreeFits t → (signatures_fault t ≡ None) × IsComposed t
  tree_fine (one t) fits = task_fine t fits
  tree_fine (chain no_trees) fits = absurd fits
  tree_fine (chain (and_tree t ts)) fits =
      let a = tree_fine t fits.0 in
      let b = trees_fine ts fits.1 in
      (rw (a.0, b.0) refl, (a.1, b.1))
  tree_fine (group g ms) fits = let a = trees_fine ms fits.1 in (a.0, (fits.0, a.1))
  tree_fine (chord g ms b) fits =
      let a = trees_fine ms fits.1 in
      let c = tree_fine b fits.2 in
      (rw (a.0, c.0) refl, (fits.0, a.1, c.1))

  trees_fine : (ts : Trees) → TreesFit ts → (all_fault ts ≡ None) × AreComposed ts
  trees_fine no_trees fits = (refl, tt)
  trees_fine (and_tree t ts) fits =
      let a = tree_fine t fits.0 in
      let b = trees_fine ts fits.1 in
      (rw (a.0, b.0) refl, (a.1, b.1))

pub is_canvas : (c : Tree) → TreeFits c → tree_fault c ≡ None → IsCanvas c
is_canvas c fits within = let a = tree_fine c fits in record { fine = rw (a.0, within) refl; composed = a.1 }
