-- What is written is read again as it was written, and nests no deeper than JSON is read.
use Rattle.std.proofs.Common.{◌≡◌, ℕ, suc, ◌≤◌, ◌^◌, ◌*◌, ◌+◌, ◌-◌, max, ℤ, pos, negsuc, List, [], ◌∷◌, true, nat_cmp, Less, Greater, refl, ap, ◌∙◌, arith}
use Rattle.std.specs.Prelude.{codes}
use Rattle.std.specs.Cmp.Lexicographic.{slice_cmp}
use Rattle.std.specs.Ordering.{ordering_reverse}
use Rattle.std.proofs.lemmas.Bool.{leb-true, and_parts}
use Rattle.std.proofs.lemmas.Cmp.{nat_list_cmp_total}
use Rattle.serde_json.specs.Data.{Data, Items, no_items, item, Members, no_members, member, depth, items_depth, members_depth}
use Rattle.serde_json.specs.Find.{of_integer}
use Rattle.canvas_task.specs.Numbers.{in_range}
use Rattle.canvas_task.specs.declared.arg.Arg.{Arg}
use Rattle.canvas_task.specs.declared.arg.Arg.TheVariants as arg
use Rattle.canvas_sig.specs.steps.Clean.{IsWholeNumber, IsAbove, behind_members, IsClean, AreClean, MembersClean}
use Rattle.canvas_semantics.specs.Tree.{Call, Task, task, Tasks, no_tasks, and_task, Tree, one, chain, group, chord, Trees, no_trees, and_tree}
use Rattle.canvas_semantics.specs.Nesting.{task_nesting, tasks_nesting, nesting, all_nesting}
use Rattle.canvas_values.specs.Writing.{numbers_wire, arg_wire, args_wire, kwargs_wire, options_wire, call_wire, task_wire, tasks_wire, primitive_wire, tasks_member, chord_members, tree_wire, trees_wire}
use Rattle.canvas_task.specs.Entries.{IsBelow, Ascends}
use Rattle.canvas_values.proofs.FittingCalls.{NumbersFit, ArgFits, ArgsFit, KwargsFit, CallFits}
use Rattle.canvas_values.proofs.Fits.{TaskFits, TasksFit, TreeFits, TreesFit}

-- ---- arguments

whole : (n : ℤ) → in_range n ≡ true → IsWholeNumber (of_integer n)
whole (pos n) h = omega (arith, leb-true n (2 ^ 60) h)
whole (negsuc n) h = omega (arith, leb-true n (2 ^ 60 - 1) (and_parts _ _ h).0)

numbers_clean : (ns : List ℤ) → NumbersFit ns → AreClean (numbers_wire ns)
numbers_clean [] h = tt
numbers_clean (n ∷ ns) h = (whole n h.0, numbers_clean ns h.1)

arg_clean : (a : Arg) → ArgFits a → IsClean (arg_wire a)
arg_clean (arg.Num n) h = whole n h
arg_clean (arg.List ns) h = numbers_clean ns h
arg_clean (arg.Text s) h = tt

pub args_clean : (args : List Arg) → ArgsFit args → AreClean (args_wire args)
args_clean [] h = tt
args_clean (a ∷ args) h = (arg_clean a h.0, args_clean args h.1)

-- ---- keyword arguments

above : (k l : List ℕ) → slice_cmp nat_cmp l k ≡ Less → slice_cmp nat_cmp k l ≡ Greater
above k l h = nat_list_cmp_total.antisymm k l ∙ ap ordering_reverse h

pub above_behind : (k l : List ℕ) (d : Data) (before : Members) → IsAbove k before → slice_cmp nat_cmp k l ≡ Greater → IsAbove k (behind_members before l d)
above_behind k l d no_members h more = (more, tt)
above_behind k l d (member j e ms) h more = (h.0, above_behind k l d ms h.1 more)

-- each name is above those before
abbrev pub AreAbove : Members → List (List ℕ × Arg) → Type 0
AreAbove before [] = Unit {0}
AreAbove before (e ∷ es) = IsAbove e.0 before × AreAbove before es

one_more : (k : List ℕ) (d : Data) (before : Members) (es : List (List ℕ × Arg)) → AreAbove before es → IsBelow k es → AreAbove (behind_members before k d) es
one_more k d before [] h low = tt
one_more k d before (e ∷ es) h low = (above_behind e.0 k d before h.0 (above e.0 k low.0), one_more k d before es h.1 low.1)

pub kwargs_clean : (before : Members) (es : List (List ℕ × Arg)) → KwargsFit es → Ascends es → AreAbove before es → MembersClean before (kwargs_wire es)
kwargs_clean before [] h up first = tt
kwargs_clean before (e ∷ es) h up first =
    (first.0, arg_clean e.1 h.0, kwargs_clean (behind_members before e.0 (arg_wire e.1)) es h.1 up.1 (one_more e.0 (arg_wire e.1) before es first.1 up.0))

pub all_above : (es : List (List ℕ × Arg)) → AreAbove no_members es
all_above [] = tt
all_above (e ∷ es) = (tt, all_above es)

-- ---- signatures

options_clean : (links errbacks : Items) → AreClean links → AreClean errbacks → MembersClean no_members (options_wire links errbacks)
options_clean no_items no_items l e = tt
options_clean no_items (item f fs) l e = (tt, e, tt)
options_clean (item d ds) no_items l e = (tt, l, tt)
options_clean (item d ds) (item f fs) l e = (tt, l, ((refl, tt), e, tt))

call_clean : (call : Call) (links errbacks : Items) → CallFits call → AreClean links → AreClean errbacks
    → IsClean (call_wire call (options_wire links errbacks))
call_clean call links errbacks fits l e = (
  tt,
  args_clean call.args fits.args,
  (
    (refl, tt),
    tt,
    (
      (refl, (refl, tt)),
      kwargs_clean no_members call.kwargs fits.kwargs fits.ordered (all_above call.kwargs),
      (
        (refl, (refl, (refl, tt))),
        options_clean links errbacks l e,
        ((refl, (refl, (refl, (refl, tt)))), tt, ((refl, (refl, (refl, (refl, (refl, tt))))), tt, tt)),
      ),
    ),
  ),
)

primitive_clean : (kind : List ℕ) (kwargs : Members) → MembersClean no_members kwargs → IsClean (primitive_wire kind kwargs)
primitive_clean kind kwargs clean = (
  tt,
  tt,
  (
    (refl, tt),
    tt,
    (
      (refl, (refl, tt)),
      clean,
      ((refl, (refl, (refl, tt))), tt, ((refl, (refl, (refl, (refl, tt)))), tt, ((refl, (refl, (refl, (refl, (refl, tt))))), tt, tt))),
    ),
  ),
)

mutual
  task_clean : (t : Task) → TaskFits t → IsClean (task_wire t)
  task_clean (task k call links errbacks) fits =
      call_clean call (tasks_wire links) (tasks_wire errbacks) fits.1 (tasks_clean links fits.2) (tasks_clean errbacks fits.3)

  tasks_clean : (ts : Tasks) → TasksFit ts → AreClean (tasks_wire ts)
  tasks_clean no_tasks fits = tt
  tasks_clean (and_task t ts) fits = (task_clean t fits.0, tasks_clean ts fits.1)

chain_clean : (ts : Trees) → TreeFits (chain ts) → TreesFit ts
chain_clean no_trees fits = absurd fits
chain_clean (and_tree t ts) fits = fits

mutual
  pub tree_clean : (t : Tree) → TreeFits t → IsClean (tree_wire t)
  tree_clean (one t) fits = task_clean t fits
  tree_clean (chain ts) fits = primitive_clean (codes "chain") (tasks_member (trees_wire ts)) (tt, trees_clean ts (chain_clean ts fits), tt)
  tree_clean (group g ms) fits = primitive_clean (codes "group") (tasks_member (trees_wire ms)) (tt, trees_clean ms fits.1, tt)
  tree_clean (chord g h b) fits = primitive_clean (codes "chord") (chord_members (tree_wire b) (trees_wire h)) (tt, tree_clean b fits.2, ((refl, tt), trees_clean h fits.1, tt))

  trees_clean : (ts : Trees) → TreesFit ts → AreClean (trees_wire ts)
  trees_clean no_trees fits = tt
  trees_clean (and_tree t ts) fits = (tree_clean t fits.0, trees_clean ts fits.1)

-- ---- each signature takes three levels of JSON

numbers_depth : (ns : List ℤ) → items_depth (numbers_wire ns) ≡ 0
numbers_depth [] = refl
numbers_depth (n ∷ ns) = omega (arith, numbers_depth ns)

arg_depth : (a : Arg) → depth (arg_wire a) ≤ 1
arg_depth (arg.Num n) = omega arith
arg_depth (arg.List ns) = omega (arith, numbers_depth ns)
arg_depth (arg.Text s) = omega arith

pub args_depth : (args : List Arg) → items_depth (args_wire args) ≤ 1
args_depth [] = omega arith
args_depth (a ∷ args) = omega (arith, arg_depth a, args_depth args)

pub kwargs_depth : (es : List (List ℕ × Arg)) → members_depth (kwargs_wire es) ≤ 1
kwargs_depth [] = omega arith
kwargs_depth (e ∷ es) = omega (arith, arg_depth e.1, kwargs_depth es)

options_depth : (n : ℕ) (links errbacks : Items) → items_depth links ≤ n → items_depth errbacks ≤ n → members_depth (options_wire links errbacks) ≤ suc n
options_depth n no_items no_items l e = omega arith
options_depth n no_items (item f fs) l e = omega arith
options_depth n (item d ds) no_items l e = omega arith
options_depth n (item d ds) (item f fs) l e = omega arith

call_depth : (n : ℕ) (call : Call) (links errbacks : Items) → items_depth links ≤ 3 * n → items_depth errbacks ≤ 3 * n
    → depth (call_wire call (options_wire links errbacks)) ≤ 3 * (1 + n)
call_depth n call links errbacks l e = omega (arith, args_depth call.args, kwargs_depth call.kwargs, options_depth (3 * n) links errbacks l e)

mutual
  task_depth : (t : Task) → depth (task_wire t) ≤ 3 * task_nesting t
  task_depth (task k call links errbacks) =
      call_depth (max (tasks_nesting links) (tasks_nesting errbacks)) call (tasks_wire links) (tasks_wire errbacks) (omega (arith, tasks_depth links))
      (omega (arith, tasks_depth errbacks))

  tasks_depth : (ts : Tasks) → items_depth (tasks_wire ts) ≤ 3 * tasks_nesting ts
  tasks_depth no_tasks = omega arith
  tasks_depth (and_task t ts) = omega (arith, task_depth t, tasks_depth ts)

mutual
  pub tree_depth : (t : Tree) → depth (tree_wire t) ≤ 3 * nesting t
  tree_depth (one t) = task_depth t
  tree_depth (chain ts) = omega (arith, trees_depth ts)
  tree_depth (group g ms) = omega (arith, trees_depth ms)
  tree_depth (chord g h b) = omega (arith, trees_depth h, tree_depth b)

  trees_depth : (ts : Trees) → items_depth (trees_wire ts) ≤ 3 * all_nesting ts
  trees_depth no_trees = omega arith
  trees_depth (and_tree t ts) = omega (arith, tree_depth t, trees_depth ts)
