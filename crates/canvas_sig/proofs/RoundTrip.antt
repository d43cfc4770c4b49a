-- What is written is read again, as data.
use Rattle.std.proofs.Common.{◌≡◌, ℕ, zero, suc, ◌≤◌, ◌^◌, ℤ, pos, negsuc, List, [], ◌∷◌, map, Bool, true, false, Some, None, Ok, refl, ap, arith}
use Rattle.std.specs.Prelude.{codes, nat_lt}
use Rattle.std.specs.List.{list_all}
use Rattle.std.proofs.lemmas.Bool.{lt-ltb, leb-true}
use Rattle.serde_json.specs.Data.{Data, null, array, object, Items, no_items, item}
use Rattle.serde_json.specs.Find.{of_integer, as_i64}
use Rattle.canvas_task.specs.Numbers.{in_range}
use Rattle.canvas_task.specs.declared.arg.Arg.{Arg}
use Rattle.canvas_task.specs.declared.arg.Arg.TheVariants as arg
use Rattle.canvas_values.specs.Fields.{field, items, entries, as_list, is_number, is_null, is_link}
use Rattle.canvas_semantics.specs.Tree.{Call, Task, task, Tasks, no_tasks, and_task, Tree, one, chain, group, chord, Trees, no_trees, and_tree}
use Rattle.canvas_semantics.specs.Nesting.{task_nesting, tasks_nesting, nesting, all_nesting}
use Rattle.canvas_values.specs.SignatureView.{tasks_of, trees_of}
use Rattle.canvas_values.specs.Answers.{in_turn}
use Rattle.canvas_values.specs.Grammar.{whole_number, arg_reading, named_reading, kind_ok, numbers_ok, number_ok, own_fault}
use Rattle.canvas_values.specs.steps.Reading.{task_with, task_reading, tree_reading}
use Rattle.canvas_values.specs.Writing.{numbers_wire, arg_wire, args_wire, kwargs_wire, options_wire, call_wire, task_wire, tasks_wire, primitive_wire, chord_members, tree_wire, trees_wire}
use Rattle.canvas_values.proofs.FittingCalls.{NumbersFit, ArgFits, ArgsFit, KwargsFit, CallFits}
use Rattle.canvas_values.proofs.Fits.{TaskFits, TasksFit, TreeFits, TreesFit}

-- ---- arguments

-- a number in range is one of 64 bits
below : (n : ℕ) → in_range (pos n) ≡ true → nat_lt n (2 ^ 63) ≡ true
below n h = lt-ltb n (2 ^ 63) (omega (arith, leb-true n (2 ^ 60) h))

number_back : (n : ℤ) → in_range n ≡ true → as_i64 (of_integer n) ≡ Some n
number_back (pos n) h = rw (below n h) refl
number_back (negsuc n) h = refl

numbers_back : (ns : List ℤ) → NumbersFit ns → map whole_number (items (numbers_wire ns)) ≡ ns
numbers_back [] h = refl
numbers_back (n ∷ ns) h = rw (number_back n h.0, numbers_back ns h.1) refl

are_numbers : (ns : List ℤ) → list_all is_number (items (numbers_wire ns)) ≡ true
are_numbers [] = refl
are_numbers (n ∷ ns) = are_numbers ns

numbers_fit : (ns : List ℤ) → NumbersFit ns → list_all number_ok (items (numbers_wire ns)) ≡ true
numbers_fit [] h = refl
numbers_fit (n ∷ ns) h = rw (number_back n h.0, h.0, numbers_fit ns h.1) refl

pub arg_back : (a : Arg) → ArgFits a → arg_reading (arg_wire a) ≡ Ok a
arg_back (arg.Num n) h = rw (number_back n h, h) refl
arg_back (arg.List ns) h = rw (are_numbers ns, numbers_fit ns h, numbers_back ns h) refl
arg_back (arg.Text s) h = refl

arg_kind : (a : Arg) → kind_ok (arg_wire a) ≡ true
arg_kind (arg.Num n) = refl
arg_kind (arg.List ns) = are_numbers ns
arg_kind (arg.Text s) = refl

arg_numbers : (a : Arg) → ArgFits a → numbers_ok (arg_wire a) ≡ true
arg_numbers (arg.Num n) h = rw (number_back n h) h
arg_numbers (arg.List ns) h = numbers_fit ns h
arg_numbers (arg.Text s) h = refl

pub args_back : (args : List Arg) → ArgsFit args → in_turn arg_reading (items (args_wire args)) ≡ Ok args
args_back [] h = refl
args_back (a ∷ args) h = rw (arg_back a h.0, args_back args h.1) refl

pub args_kinds : (args : List Arg) → list_all kind_ok (items (args_wire args)) ≡ true
args_kinds [] = refl
args_kinds (a ∷ args) = rw (arg_kind a, args_kinds args) refl

pub args_numbers : (args : List Arg) → ArgsFit args → list_all numbers_ok (items (args_wire args)) ≡ true
args_numbers [] h = refl
args_numbers (a ∷ args) h = rw (arg_numbers a h.0, args_numbers args h.1) refl

pub kwargs_back : (es : List (List ℕ × Arg)) → KwargsFit es → in_turn named_reading (entries (kwargs_wire es)) ≡ Ok es
kwargs_back [] h = refl
kwargs_back (e ∷ es) h = rw (arg_back e.1 h.0, kwargs_back es h.1) refl

pub kwargs_kinds : (es : List (List ℕ × Arg)) → list_all kind_ok (map (λ e. e.1) (entries (kwargs_wire es))) ≡ true
kwargs_kinds [] = refl
kwargs_kinds (e ∷ es) = rw (arg_kind e.1, kwargs_kinds es) refl

pub kwargs_numbers : (es : List (List ℕ × Arg)) → KwargsFit es → list_all numbers_ok (map (λ e. e.1) (entries (kwargs_wire es))) ≡ true
kwargs_numbers [] h = refl
kwargs_numbers (e ∷ es) h = rw (arg_numbers e.1 h.0, kwargs_numbers es h.1) refl

-- ---- options

-- what a look-up of a list finds: null where it was left out
abbrev pub list_or_null : Items → Data
list_or_null no_items = null
list_or_null (item d ds) = array (item d ds)

link_found : (links errbacks : Items) → field (codes "link") (object (options_wire links errbacks)) ≡ list_or_null links
link_found no_items no_items = refl
link_found no_items (item e es) = refl
link_found (item d ds) no_items = refl
link_found (item d ds) (item e es) = refl

link_error_found : (links errbacks : Items) → field (codes "link_error") (object (options_wire links errbacks)) ≡ list_or_null errbacks
link_error_found no_items no_items = refl
link_error_found no_items (item e es) = refl
link_error_found (item d ds) no_items = refl
link_error_found (item d ds) (item e es) = refl

no_chord : (links errbacks : Items) → field (codes "chord") (object (options_wire links errbacks)) ≡ null
no_chord no_items no_items = refl
no_chord no_items (item e es) = refl
no_chord (item d ds) no_items = refl
no_chord (item d ds) (item e es) = refl

pub link_ok : (ds : Items) → is_link (list_or_null ds) ≡ true
link_ok no_items = refl
link_ok (item d ds) = refl

pub as_items : (ds : Items) → as_list (list_or_null ds) ≡ items ds
as_items no_items = refl
as_items (item d ds) = refl

-- ---- tasks

abbrev listed_tasks : Tasks → List Task
listed_tasks no_tasks = []
listed_tasks (and_task t ts) = t ∷ listed_tasks ts

tasks_listed : (ts : Tasks) → tasks_of (listed_tasks ts) ≡ ts
tasks_listed no_tasks = refl
tasks_listed (and_task t ts) = ap (and_task t) (tasks_listed ts)

no_fault : (linked : Bool) (call : Call) (links errbacks : Items) → CallFits call → own_fault linked (call_wire call (options_wire links errbacks)) ≡ None
no_fault linked call links errbacks fits =
    rw (
      fits.name,
      link_found links errbacks,
      link_error_found links errbacks,
      no_chord links errbacks,
      link_ok links,
      link_ok errbacks,
      args_kinds call.args,
      kwargs_kinds call.kwargs,
      args_numbers call.args fits.args,
      kwargs_numbers call.kwargs fits.kwargs,
    ) refl

call_back : (n : ℕ) (call : Call) (links errbacks : Tasks) → CallFits call
    → in_turn (task_reading n) (items (tasks_wire links)) ≡ Ok (listed_tasks links)
    → in_turn (task_reading n) (items (tasks_wire errbacks)) ≡ Ok (listed_tasks errbacks)
    → task_with (task_reading n) (call_wire call (options_wire (tasks_wire links) (tasks_wire errbacks))) ≡ Ok (task 0 call links errbacks)
call_back n call links errbacks fits l e =
    rw (
      args_back call.args fits.args,
      kwargs_back call.kwargs fits.kwargs,
      link_found (tasks_wire links) (tasks_wire errbacks),
      link_error_found (tasks_wire links) (tasks_wire errbacks),
      as_items (tasks_wire links),
      as_items (tasks_wire errbacks),
      l,
      e,
      tasks_listed links,
      tasks_listed errbacks,
    ) refl

mutual
  pub task_back : (n : ℕ) (t : Task) → TaskFits t → task_nesting t ≤ n → task_reading n (task_wire t) ≡ Ok t
  task_back zero (task k call links errbacks) fits low = absurd (omega arith)
  task_back (suc n) (task k call links errbacks) fits low =
      rw (
        no_fault true call (tasks_wire links) (tasks_wire errbacks) fits.1,
        call_back n call links errbacks fits.1 (tasks_back n links fits.2 (omega arith)) (tasks_back n errbacks fits.3 (omega arith)),
        fits.0,
      ) refl

  pub tasks_back : (n : ℕ) (ts : Tasks) → TasksFit ts → tasks_nesting ts ≤ n → in_turn (task_reading n) (items (tasks_wire ts)) ≡ Ok (listed_tasks ts)
  tasks_back n no_tasks fits low = refl
  tasks_back n (and_task t ts) fits low = rw (task_back n t fits.0 (omega arith), tasks_back n ts fits.1 (omega arith)) refl

-- ---- canvases

abbrev listed_trees : Trees → List Tree
listed_trees no_trees = []
listed_trees (and_tree t ts) = t ∷ listed_trees ts

trees_listed : (ts : Trees) → trees_of (listed_trees ts) ≡ ts
trees_listed no_trees = refl
trees_listed (and_tree t ts) = ap (and_tree t) (trees_listed ts)

some_value : (t : Tree) → is_null (tree_wire t) ≡ false
some_value (one (task k call links errbacks)) = refl
some_value (chain ts) = refl
some_value (group g ms) = refl
some_value (chord g h b) = refl

no_chord_fault : (body : Data) (header : Items) → is_null body ≡ false → own_fault false (primitive_wire (codes "chord") (chord_members body header)) ≡ None
no_chord_fault body header some = rw some refl

one_back : (n k : ℕ) (call : Call) (links errbacks : Tasks) → TaskFits (task k call links errbacks) → task_nesting (task k call links errbacks) ≤ suc n
    → tree_reading (suc n) (tree_wire (one (task k call links errbacks))) ≡ Ok (one (task k call links errbacks))
one_back n k call links errbacks fits low =
    rw (
      no_fault false call (tasks_wire links) (tasks_wire errbacks) fits.1,
      call_back n call links errbacks fits.1 (tasks_back n links fits.2 (omega arith)) (tasks_back n errbacks fits.3 (omega arith)),
      fits.0,
    ) refl

chain_fits : (ts : Trees) → TreeFits (chain ts) → TreesFit ts
chain_fits no_trees fits = absurd fits
chain_fits (and_tree t ts) fits = fits

chain_back : (n : ℕ) (ts : Trees) → TreeFits (chain ts) → in_turn (tree_reading n) (items (trees_wire ts)) ≡ Ok (listed_trees ts)
    → tree_reading (suc n) (tree_wire (chain ts)) ≡ Ok (chain ts)
chain_back n no_trees fits read = absurd fits
chain_back n (and_tree t ts) fits read = rw (read, trees_listed ts) refl

group_back : (n g : ℕ) (ms : Trees) → g ≡ 0 → in_turn (tree_reading n) (items (trees_wire ms)) ≡ Ok (listed_trees ms)
    → tree_reading (suc n) (tree_wire (group g ms)) ≡ Ok (group g ms)
group_back n g ms unnumbered read = rw (read, trees_listed ms, unnumbered) refl

chord_back : (n g : ℕ) (h : Trees) (b : Tree) → g ≡ 0 → in_turn (tree_reading n) (items (trees_wire h)) ≡ Ok (listed_trees h)
    → tree_reading n (tree_wire b) ≡ Ok b
    → tree_reading (suc n) (tree_wire (chord g h b)) ≡ Ok (chord g h b)
chord_back n g h b unnumbered header body =
    rw (no_chord_fault (tree_wire b) (trees_wire h) (some_value b), header, body, trees_listed h, unnumbered) refl

mutual
  pub tree_back : (n : ℕ) (t : Tree) → TreeFits t → nesting t ≤ n → tree_reading n (tree_wire t) ≡ Ok t
  tree_back zero (one (task k call links errbacks)) fits low = absurd (omega arith)
  tree_back zero (chain ts) fits low = absurd (omega arith)
  tree_back zero (group g ms) fits low = absurd (omega arith)
  tree_back zero (chord g h b) fits low = absurd (omega arith)
  tree_back (suc n) (one (task k call links errbacks)) fits low = one_back n k call links errbacks fits low
  tree_back (suc n) (chain ts) fits low = chain_back n ts fits (trees_back n ts (chain_fits ts fits) (omega arith))
  tree_back (suc n) (group g ms) fits low = group_back n g ms fits.0 (trees_back n ms fits.1 (omega arith))
  tree_back (suc n) (chord g h b) fits low = chord_back n g h b fits.0 (trees_back n h fits.1 (omega arith)) (tree_back n b fits.2 (omega arith))

  pub trees_back : (n : ℕ) (ts : Trees) → TreesFit ts → all_nesting ts ≤ n → in_turn (tree_reading n) (items (trees_wire ts)) ≡ Ok (listed_trees ts)
  trees_back n no_trees fits low = refl
  trees_back n (and_tree t ts) fits low = rw (tree_back n t fits.0 (omega arith), trees_back n ts fits.1 (omega arith)) refl
