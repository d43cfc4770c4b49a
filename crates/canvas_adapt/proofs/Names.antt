-- Other names for the tasks of a signature, from those of its parts; and what they leave as it is.
use Rattle.std.proofs.Common.{◌≡◌, ◌∙◌, ℕ, ◌+◌, ◌≤◌, Bool, List, [], ◌∷◌, map, None, Box, Global, refl, sym, ap, true, false}
use Rattle.std.proofs.lemmas.Bool.{or_parts, ltb-false}
use Rattle.std.specs.Prelude.{Option, Some, if◌then◌else◌, nat_lt}
use Rattle.canvas_task.specs.Text.{Text}
use Rattle.canvas_task.specs.declared.arg.Arg.{Arg}
use Rattle.canvas_semantics.specs.Tree.{Call, Task, task, and_task, Tree, one, chain, group, chord, and_tree, count_task, count_tasks, count, count_all}
use Rattle.canvas_semantics.specs.Bounds.{nests_group, is_too_deep, is_too_many, most_tasks}
use Rattle.canvas_semantics.specs.steps.Numbering.{tasks_in}
use Rattle.canvas_values.specs.SignatureView.{view, task_view, tasks_of, trees_of}
use Rattle.canvas_values.specs.declared.task_sig.TaskSig.{TaskSig, out-TaskSig, roll-TaskSig}
use Rattle.canvas_values.specs.declared.node.Node.{Node, Chain, Group, Chord}
use Rattle.canvas_values.specs.declared.node.Node as node
use Rattle.canvas_values.specs.declared.fault.SigFault.{SigFault}
use Rattle.canvas_values.specs.declared.fault.SigFault.TheVariants.{NestedGroup, TooDeep, TooMany}
use Rattle.canvas_values.specs.Writable.{IsCanvas}
use Rattle.canvas_values.proofs.Fits.{canvas_within}
use Rattle.canvas_values.proofs.Views.{task_seen, made, view-Task, view-Chain, view-Group, view-Chord}
use Rattle.canvas_adapt.specs.declared.renames.Rename.{Rename}
use Rattle.canvas_adapt.specs.Renamed.{name_for, name_or, rename_task, rename_tasks, rename_tree, rename_trees}
use Rattle.canvas_adapt.specs.steps.Renaming.{tasks_renamed, trees_renamed, trees_in}

-- ---- lists

in_tasks : (ts : List Task) → count_tasks (tasks_of ts) ≡ tasks_in ts
in_tasks [] = refl
in_tasks (t ∷ ts) = ap (λ n. count_task t + n) (in_tasks ts)

in_trees : (ts : List Tree) → count_all (trees_of ts) ≡ trees_in ts
in_trees [] = refl
in_trees (t ∷ ts) = ap (λ n. count t + n) (in_trees ts)

all_tasks : (rs : List Rename) (k : ℕ) (ts : List Task) → tasks_of (tasks_renamed rs k ts) ≡ rename_tasks rs k (tasks_of ts)
all_tasks rs k [] = refl
all_tasks rs k (t ∷ ts) = ap (and_task (rename_task rs k t)) (all_tasks rs (k + count_task t) ts)

all_trees : (rs : List Rename) (k : ℕ) (ts : List Tree) → trees_of (trees_renamed rs k ts) ≡ rename_trees rs k (trees_of ts)
all_trees rs k [] = refl
all_trees rs k (t ∷ ts) = ap (and_tree (rename_tree rs k t)) (all_trees rs (k + count t) ts)

-- ---- how many tasks

pub task_has : (s : TaskSig)
    → count_task (task_view s)
    ≡ 1 + count_tasks (tasks_of (map task_view (out-TaskSig s).links)) + count_tasks (tasks_of (map task_view (out-TaskSig s).errbacks))
task_has s = ap count_task (task_seen s)

pub task_counted : (s : TaskSig)
    → count_task (task_view s) ≡ 1 + tasks_in (map task_view (out-TaskSig s).links) + tasks_in (map task_view (out-TaskSig s).errbacks)
task_counted s =
    let ls : List Task = map task_view (out-TaskSig s).links in
    let es : List Task = map task_view (out-TaskSig s).errbacks in
    ap count_task (task_seen s) ∙ ap (λ n. 1 + n + count_tasks (tasks_of es)) (in_tasks ls) ∙ ap (λ n. 1 + tasks_in ls + n) (in_tasks es)

pub chain_counted : (ns : List Node) → count (view (Chain ns)) ≡ trees_in (map view ns)
chain_counted ns = ap count (view-Chain ns) ∙ in_trees (map view ns)

pub group_counted : (ns : List Node) → count (view (Group ns)) ≡ trees_in (map view ns)
group_counted ns = ap count (view-Group ns) ∙ in_trees (map view ns)

pub chord_counted : (ns : List Node) (b : Box Node Global) → count (view (Chord ns b)) ≡ trees_in (map view ns) + count (view b.value)
chord_counted ns b = ap count (view-Chord ns b) ∙ ap (λ n. n + count (view b.value)) (in_trees (map view ns))

-- ---- a task

abbrev renamed_call : List Rename → ℕ → TaskSig → Call
renamed_call rs k s = record {
  name = name_or (name_for rs k) (out-TaskSig s).name;
  args = (out-TaskSig s).args;
  kwargs = (out-TaskSig s).kwargs;
  immutable = (out-TaskSig s).immutable;
}

task_renamed : (rs : List Rename) (k : ℕ) (s : TaskSig) → rename_task rs k (task_view s)
    ≡ task 0 (renamed_call rs k s)
    (tasks_of (tasks_renamed rs (k + 1) (map task_view (out-TaskSig s).links)))
    (tasks_of (tasks_renamed rs (k + 1 + tasks_in (map task_view (out-TaskSig s).links)) (map task_view (out-TaskSig s).errbacks)))
task_renamed rs k s =
    let ls : List Task = map task_view (out-TaskSig s).links in
    let es : List Task = map task_view (out-TaskSig s).errbacks in
    let c : Call = renamed_call rs k s in
    ap (rename_task rs k) (task_seen s)
    ∙ ap (λ n. task 0 c (rename_tasks rs (k + 1) (tasks_of ls)) (rename_tasks rs (k + 1 + n) (tasks_of es))) (in_tasks ls)
    ∙ ap (λ ts. task 0 c ts (rename_tasks rs (k + 1 + tasks_in ls) (tasks_of es))) (sym (all_tasks rs (k + 1) ls))
    ∙ ap (λ ts. task 0 c (tasks_of (tasks_renamed rs (k + 1) ls)) ts) (sym (all_tasks rs (k + 1 + tasks_in ls) es))

-- a task with the fields of another but its name, its callbacks renamed one after another
pub renamed_as : (rs : List Rename) (s : TaskSig) (k next : ℕ) (n : Text) (a : List Arg) (w : List (Text × Arg)) (ls es : List TaskSig)
    → n ≡ name_or (name_for rs k) (out-TaskSig s).name → a ≡ (out-TaskSig s).args → w ≡ (out-TaskSig s).kwargs
    → map task_view ls ≡ tasks_renamed rs (k + 1) (map task_view (out-TaskSig s).links)
    → next ≡ k + 1 + tasks_in (map task_view (out-TaskSig s).links)
    → map task_view es ≡ tasks_renamed rs next (map task_view (out-TaskSig s).errbacks)
    → task_view (roll-TaskSig (record { name = n; args = a; kwargs = w; immutable = (out-TaskSig s).immutable; links = ls; errbacks = es }))
    ≡ rename_task rs k (task_view s)
renamed_as rs s k next n a w ls es hn ha hw hl hnext he =
    let i : Bool = (out-TaskSig s).immutable in
    let Goal : Text → List Arg → List (Text × Arg) → List Task → List Task → Task =
    λ n' a' w' ls' es'. task 0 (record { name = n'; args = a'; kwargs = w'; immutable = i }) (tasks_of ls') (tasks_of es') in
    made n a w i ls es
    ∙ ap (λ x. Goal x a w (map task_view ls) (map task_view es)) hn
    ∙ ap (λ x. Goal (name_or (name_for rs k) (out-TaskSig s).name) x w (map task_view ls) (map task_view es)) ha
    ∙ ap (λ x. Goal (name_or (name_for rs k) (out-TaskSig s).name) (out-TaskSig s).args x (map task_view ls) (map task_view es)) hw
    ∙ ap (λ x. Goal (name_or (name_for rs k) (out-TaskSig s).name) (out-TaskSig s).args (out-TaskSig s).kwargs x (map task_view es)) hl
    ∙ ap (λ x. Goal (name_or (name_for rs k) (out-TaskSig s).name) (out-TaskSig s).args (out-TaskSig s).kwargs
    (tasks_renamed rs (k + 1) (map task_view (out-TaskSig s).links)) x)
    (he ∙ ap (λ m. tasks_renamed rs m (map task_view (out-TaskSig s).errbacks)) hnext)
    ∙ sym (task_renamed rs k s)

-- ---- a chain, a group and a chord

module _ (rs : List Rename) (k : ℕ) (ns : List Node) (ms copies : List Node) (listed : ms ≡ copies)
    (made : map view copies ≡ trees_renamed rs k (map view ns)) where
  its_trees : trees_of (map view ms) ≡ rename_trees rs k (trees_of (map view ns))
  its_trees = ap (λ xs. trees_of (map view xs)) listed ∙ ap trees_of made ∙ all_trees rs k (map view ns)

  pub chain_as : view (Chain ms) ≡ rename_tree rs k (view (Chain ns))
  chain_as = view-Chain ms ∙ ap chain its_trees ∙ sym (ap (rename_tree rs k) (view-Chain ns))

  pub group_as : view (Group ms) ≡ rename_tree rs k (view (Group ns))
  group_as = view-Group ms ∙ ap (group 0) its_trees ∙ sym (ap (rename_tree rs k) (view-Group ns))

  pub chord_as : (b box : Box Node Global) (n : Node) (next : ℕ) → next ≡ k + trees_in (map view ns)
      → box.value ≡ n → view n ≡ rename_tree rs next (view b.value)
      → view (Chord ms box) ≡ rename_tree rs k (view (Chord ns b))
  chord_as b box n next behind at of_body =
      let there : view box.value ≡ rename_tree rs (k + count_all (trees_of (map view ns))) (view b.value) =
      ap view at ∙ of_body ∙ ap (λ m. rename_tree rs m (view b.value)) (behind ∙ ap (λ m. k + m) (sym (in_trees (map view ns)))) in
      view-Chord ms box ∙ (λ i. chord 0 (its_trees i) (there i)) ∙ sym (ap (rename_tree rs k) (view-Chord ns b))

pub task_as : (rs : List Rename) (k : ℕ) (s t : TaskSig) → task_view t ≡ rename_task rs k (task_view s)
    → view (node.Task t) ≡ rename_tree rs k (view (node.Task s))
task_as rs k s t e = view-Task t ∙ ap one e ∙ sym (ap (rename_tree rs k) (view-Task s))

pub task_count : (s : TaskSig) → count (view (node.Task s)) ≡ count_task (task_view s)
task_count s = ap count (view-Task s)

-- ---- a canvas has few tasks

-- a choice that gives none, at its test
passes : (b : Bool) (e : SigFault) (o : Option SigFault) → (if b then Some e else o) ≡ None → (b ≡ false) × (o ≡ None)
passes true e o h = cc
passes false e o h = (refl, h)

pub few_tasks : (c : Tree) → IsCanvas c → count c ≤ most_tasks
few_tasks c h =
    let nested = passes (nests_group c) NestedGroup _ (canvas_within c h) in
    let deep = passes (is_too_deep c) TooDeep _ nested.1 in
    let many = passes (is_too_many c) TooMany None deep.1 in
    let counts = or_parts (nat_lt most_tasks (count c)) _ many.0 in
    ltb-false _ _ counts.0
