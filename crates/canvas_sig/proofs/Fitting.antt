-- A signature without a fault, that was read from a text, can be written and read again.
use Rattle.std.proofs.Common.{◌≡◌, ℕ, zero, suc, ℤ, List, [], ◌∷◌, ◌++◌, map, Bool, true, false, Option, Some, None, Ok, refl, sym, ap, subst, ◌∙◌}
use Rattle.std.specs.Prelude.{codes, not, ◌||◌}
use Rattle.std.specs.List.{list_all}
use Rattle.std.proofs.lemmas.Bool.{and_parts}
use Rattle.serde_json.specs.Data.{Data, null, boolean, number, string, array, object, no_items, item, Members, no_members, member}
use Rattle.serde_json.specs.Find.{as_i64}
use Rattle.serde_json.specs.Read.{read}
use Rattle.canvas_task.specs.Entries.{IsBelow, Ascends}
use Rattle.canvas_task.specs.Name.{name_ok}
use Rattle.canvas_task.specs.Numbers.{in_range}
use Rattle.canvas_values.specs.declared.fault.SigFault.{SigFault}
use Rattle.canvas_values.specs.declared.fault.SigFault.TheVariants.{NotSignature, BadArgs, BadNumber, OnCanvas, Frozen, EmptyChain}
use Rattle.canvas_values.specs.declared.primitive.Primitive.{Primitive}
use Rattle.canvas_values.specs.declared.primitive.Primitive.TheVariants as kind
use Rattle.canvas_task.specs.Text.{Text}
use Rattle.canvas_values.specs.Fields.{field, subtype, args, kwargs, tasks, header, body, link, link_error, items, entries, listed, as_list, object_members, text_of, is_number, is_null, is_list, is_empty, is_object}
use Rattle.canvas_values.specs.Answers.{◌or_else◌, fault_if, judged}
use Rattle.canvas_values.specs.Grammar.{some_or_zero, whole_number, argument_of, is_name, primitive_of, some_in_range, number_ok, kind_ok, numbers_ok, args_ok, is_group, not_signature, bad_args, bad_number, on_canvas, frozen, empty_chain, fault_as, own_fault, members_in}
use Rattle.canvas_values.specs.steps.Reading.{tree_reading}
use Rattle.canvas_values.specs.Refusals.{first_fault, in_kwargs, named_of, spelled_call, task_within, header_of, tree_from, tree_within}
use Rattle.canvas_semantics.specs.Tree.{Task, Tree, one, chain, group, chord}
use Rattle.canvas_values.specs.SignatureView.{tasks_of, trees_of}
use Rattle.canvas_values.proofs.FittingCalls.{NumbersFit, ArgFits, ArgsFit, KwargsFit, CallFits}
use Rattle.canvas_values.proofs.Fits.{TaskFits, TasksFit, TreeFits, TreesFit}
use Rattle.canvas_sig.proofs.InOrder.{IsBefore, IsSorted, MembersSorted, AllSorted, all_items, all_in_list, all_listed, field_sorted, read_sorted}
use Rattle.canvas_values.proofs.Law.{fault_left, quiet, neither, back, Fine, fine, only_task, tree_judged}

-- ---- arguments

whole_fits : (o : Option ℤ) → some_in_range o ≡ true → in_range (some_or_zero o) ≡ true
whole_fits None h = absurd cc
whole_fits (Some z) h = h

number_fits : (d : Data) → is_number d ≡ true → number_ok d ≡ true → in_range (whole_number d) ≡ true
number_fits (number n) k h = whole_fits (as_i64 n) h
number_fits d k h = absurd cc

numbers_fit : (ds : List Data) → list_all is_number ds ≡ true → list_all number_ok ds ≡ true → NumbersFit (map whole_number ds)
numbers_fit [] k h = tt
numbers_fit (d ∷ ds) k h =
    let p = and_parts _ _ k in let q = and_parts _ _ h in
    (number_fits d p.0 q.0, numbers_fit ds p.1 q.1)

argument_fits : (d : Data) → kind_ok d ≡ true → numbers_ok d ≡ true → ArgFits (argument_of d)
argument_fits (number n) k h = whole_fits (as_i64 n) h
argument_fits (string s) k h = tt
argument_fits (array ds) k h = numbers_fit (items ds) k h
argument_fits null k h = absurd cc
argument_fits (boolean b) k h = absurd cc
argument_fits (object ms) k h = absurd cc

arguments_fit : (ds : List Data) → list_all kind_ok ds ≡ true → list_all numbers_ok ds ≡ true → ArgsFit (map argument_of ds)
arguments_fit [] k h = tt
arguments_fit (d ∷ ds) k h =
    let p = and_parts _ _ k in let q = and_parts _ _ h in
    (argument_fits d p.0 q.0, arguments_fit ds p.1 q.1)

named_fit : (es : List (Text × Data)) → list_all kind_ok (map (λ e. e.1) es) ≡ true → list_all numbers_ok (map (λ e. e.1) es) ≡ true
    → KwargsFit (map named_of es)
named_fit [] k h = tt
named_fit (e ∷ es) k h =
    let p = and_parts _ _ k in let q = and_parts _ _ h in
    (argument_fits e.1 p.0 q.0, named_fit es p.1 q.1)

below_all : (k : Text) (ms : Members) → IsBefore k ms → IsBelow k (map named_of (entries ms))
below_all k no_members h = tt
below_all k (member l d ms) h = (h.0, below_all k ms h.1)

entries_ascend : (ms : Members) → MembersSorted ms → Ascends (map named_of (entries ms))
entries_ascend no_members h = tt
entries_ascend (member k d ms) h = (below_all k ms h.0, entries_ascend ms h.2)

kwargs_ascend : (d : Data) → IsSorted d → Ascends (map named_of (object_members d))
kwargs_ascend (object ms) h = entries_ascend ms h
kwargs_ascend d h = tt

-- ---- what no fault says

both_quiet : (f g : Option SigFault) → (f or_else g) ≡ None → (f ≡ None) × (g ≡ None)
both_quiet None g h = (refl, h)
both_quiet (Some e) g h = absurd cc

last_quiet : (b : Bool) (e : SigFault) → fault_if b e ≡ None → b ≡ false
last_quiet true e h = absurd cc
last_quiet false e h = refl

not_empty : (linked : Bool) (p : Primitive) (d : Data) → fault_as linked d (Some p) ≡ None → empty_chain p d ≡ false
not_empty linked p d h =
    let a = quiet (bad_args p d) BadArgs _ h in
    let b = quiet (bad_number p d) BadNumber _ a.1 in
    let c = quiet (on_canvas linked p d) OnCanvas _ b.1 in
    let f = quiet (frozen d) Frozen _ c.1 in
    last_quiet (empty_chain p d) EmptyChain f.1

is_named : (d : Data) → is_name d ≡ true → name_ok (text_of d) ≡ true
is_named (string s) h = h
is_named d h = absurd cc

has_name : (d : Data) → not_signature d ≡ false → name_ok (text_of (field (codes "task") d)) ≡ true
has_name d h =
    let first = neither (not (is_object d) || not (is_name (field (codes "task") d))) _ h in
    is_named (field (codes "task") d) (back _ (neither (not (is_object d)) _ first.0).1)

call_fits : (linked : Bool) (d : Data) → IsSorted d → not_signature d ≡ false → Fine linked kind.Task d → CallFits (spelled_call d)
call_fits linked d sorted signature fine =
    let kinds = and_parts _ _ (back (args_ok kind_ok d) fine.its_members) in
    let ranges = and_parts _ _ (back (args_ok numbers_ok d) fine.numbers) in
    record {
      name = has_name d signature;
      args = arguments_fit (listed (args d)) kinds.0 ranges.0;
      kwargs = named_fit (object_members (kwargs d)) kinds.1 ranges.1;
      ordered = kwargs_ascend (kwargs d) (field_sorted (codes "kwargs") d sorted);
    }

-- ---- tasks

-- a list of signatures without a fault, from the statement about one
each_task : (f : Data → Task) (g : Data → Option SigFault) → ((d : Data) → IsSorted d → g d ≡ None → TaskFits (f d))
    → (ds : List Data) → AllSorted ds → first_fault g ds ≡ None → TasksFit (tasks_of (map f ds))
each_task f g fits [] sorted h = tt
each_task f g fits (d ∷ ds) sorted h =
    let p = both_quiet (g d) (first_fault g ds) h in
    (fits d sorted.0 p.0, each_task f g fits ds sorted.1 p.1)

link_sorted : (k : Text) (d : Data) → IsSorted d → AllSorted (as_list (field k (field (codes "options") d)))
link_sorted k d sorted = all_in_list (field k (field (codes "options") d)) (field_sorted k (field (codes "options") d) (field_sorted (codes "options") d sorted))

-- the faults of a signature: its own, then of those in it
record Quiet (n : ℕ) (linked : Bool) (d : Data) : Type 0 where
  signature : not_signature d ≡ false
  its_own : fault_as linked d (primitive_of (subtype d)) ≡ None
  inside : first_fault (fault_left n false) (in_kwargs (primitive_of (subtype d)) d) ≡ None
  links : first_fault (fault_left n true) (as_list (link d)) ≡ None
  errbacks : first_fault (fault_left n true) (as_list (link_error d)) ≡ None

all_quiet : (n : ℕ) (linked : Bool) (d : Data) → fault_left (suc n) linked d ≡ None → Quiet n linked d
all_quiet n linked d h =
    let first = both_quiet (own_fault linked d) _ h in
    let next = both_quiet (first_fault (fault_left n false) (in_kwargs (primitive_of (subtype d)) d)) _ first.1 in
    let last = both_quiet (first_fault (fault_left n true) (as_list (link d))) _ next.1 in
    let its = quiet (not_signature d) NotSignature _ first.0 in
    record { signature = its.0; its_own = its.1; inside = next.0; links = last.0; errbacks = last.1 }

linked_task : (n : ℕ) (d : Data) → fault_left n true d ≡ None → primitive_of (subtype d) ≡ Some kind.Task
linked_task zero d h = absurd cc
linked_task (suc n) d h = only_task d (primitive_of (subtype d)) (all_quiet n true d h).its_own

task_fits : (n : ℕ) (linked : Bool) (d : Data) → IsSorted d → fault_left n linked d ≡ None → primitive_of (subtype d) ≡ Some kind.Task
    → TaskFits (task_within n d)
task_fits zero linked d sorted h is = absurd cc
task_fits (suc n) linked d sorted h is =
    let q = all_quiet n linked d h in
    let fits : (x : Data) → IsSorted x → fault_left n true x ≡ None → TaskFits (task_within n x) =
    λ x s none. task_fits n true x s none (linked_task n x none) in
    let call = call_fits linked d sorted q.signature (fine linked kind.Task d (ap (fault_as linked d) (sym is) ∙ q.its_own)) in (
      refl,
      call,
      each_task (task_within n) (fault_left n true) fits (as_list (link d)) (link_sorted (codes "link") d sorted) q.links,
      each_task (task_within n) (fault_left n true) fits (as_list (link_error d)) (link_sorted (codes "link_error") d sorted) q.errbacks,
    )

-- ---- canvases

each_tree : (f : Data → Tree) (g : Data → Option SigFault) → ((d : Data) → IsSorted d → g d ≡ None → TreeFits (f d))
    → (ds : List Data) → AllSorted ds → first_fault g ds ≡ None → TreesFit (trees_of (map f ds))
each_tree f g fits [] sorted h = tt
each_tree f g fits (d ∷ ds) sorted h =
    let p = both_quiet (g d) (first_fault g ds) h in
    (fits d sorted.0 p.0, each_tree f g fits ds sorted.1 p.1)

full_chain : (f : Data → Tree) (d : Data) → is_list d ≡ true → is_empty d ≡ false → TreesFit (trees_of (map f (listed d)))
    → TreeFits (chain (trees_of (map f (listed d))))
full_chain f (array no_items) list some fit = absurd cc
full_chain f (array (item d ds)) list some fit = fit
full_chain f null list some fit = absurd cc
full_chain f (boolean b) list some fit = absurd cc
full_chain f (number n) list some fit = absurd cc
full_chain f (string s) list some fit = absurd cc
full_chain f (object ms) list some fit = absurd cc

members_fit : (t : Tree) → TreeFits t → TreesFit (members_in t)
members_fit (one t) h = tt
members_fit (chain ts) h = tt
members_fit (group g ms) h = h.1
members_fit (chord g h b) fits = tt

header_fits : (f : Data → Tree) (g : Data → Option SigFault) → ((d : Data) → IsSorted d → g d ≡ None → TreeFits (f d))
    → (d : Data) → (is_list d || is_group d) ≡ true → IsSorted d → first_fault g (as_list d) ≡ None → TreesFit (header_of f d)
header_fits f g fits (array ds) list sorted h = each_tree f g fits (items ds) (all_items ds sorted) h
header_fits f g fits null list sorted h = absurd cc
header_fits f g fits (boolean b) list sorted h = members_fit (f (boolean b)) (fits (boolean b) sorted (both_quiet (g (boolean b)) None h).0)
header_fits f g fits (number n) list sorted h = members_fit (f (number n)) (fits (number n) sorted (both_quiet (g (number n)) None h).0)
header_fits f g fits (string s) list sorted h = members_fit (f (string s)) (fits (string s) sorted (both_quiet (g (string s)) None h).0)
header_fits f g fits (object ms) list sorted h = members_fit (f (object ms)) (fits (object ms) sorted (both_quiet (g (object ms)) None h).0)

-- a list, then one more
first_then : (g : Data → Option SigFault) (ds : List Data) (d : Data) → first_fault g (ds ++ d ∷ []) ≡ None → (first_fault g ds ≡ None) × (g d ≡ None)
first_then g [] d h = (refl, (both_quiet (g d) None h).0)
first_then g (x ∷ ds) d h =
    let p = both_quiet (g x) (first_fault g (ds ++ d ∷ [])) h in
    let q = first_then g ds d p.1 in
    (rw p.0 q.0, q.1)

kwarg_sorted : (k : Text) (d : Data) → IsSorted d → IsSorted (field k (kwargs d))
kwarg_sorted k d sorted = field_sorted k (kwargs d) (field_sorted (codes "kwargs") d sorted)

-- one level, from the statements about the signatures inside
level_fits : (t : Task) (f : Data → Tree) (g : Data → Option SigFault) → ((d : Data) → IsSorted d → g d ≡ None → TreeFits (f d))
    → (p : Option Primitive) (d : Data) → IsSorted d → fault_as false d p ≡ None → first_fault g (in_kwargs p d) ≡ None → (p ≡ Some kind.Task → TaskFits t)
    → TreeFits (tree_from t f p d)
level_fits t f g fits None d sorted its inside alone = absurd cc
level_fits t f g fits (Some kind.Task) d sorted its inside alone = alone refl
level_fits t f g fits (Some kind.Chain) d sorted its inside alone =
    full_chain f (tasks d) (back (is_list (tasks d)) (fine false kind.Chain d its).its_members) (not_empty false kind.Chain d its)
    (each_tree f g fits (listed (tasks d)) (all_listed (tasks d) (kwarg_sorted (codes "tasks") d sorted)) inside)
level_fits t f g fits (Some kind.Group) d sorted its inside alone =
    (refl, each_tree f g fits (listed (tasks d)) (all_listed (tasks d) (kwarg_sorted (codes "tasks") d sorted)) inside)
level_fits t f g fits (Some kind.Chord) d sorted its inside alone =
    let list = back (is_list (header d) || is_group (header d))
    (neither (not (is_list (header d) || is_group (header d))) (is_null (body d)) (fine false kind.Chord d its).its_members).0 in
    let parts = first_then g (as_list (header d)) (body d) inside in
    (refl, header_fits f g fits (header d) list (kwarg_sorted (codes "header") d sorted) parts.0, fits (body d) (kwarg_sorted (codes "body") d sorted) parts.1)

tree_fits : (n : ℕ) (d : Data) → IsSorted d → fault_left n false d ≡ None → TreeFits (tree_within n d)
tree_fits zero d sorted h = absurd cc
tree_fits (suc n) d sorted h =
    let q = all_quiet n false d h in
    level_fits (task_within (suc n) d) (tree_within n) (fault_left n false) (tree_fits n) (primitive_of (subtype d)) d sorted q.its_own q.inside
    (task_fits (suc n) false d sorted h)

judged_ok : {A : Type 0} (f : Option SigFault) (x y : A) → judged f x ≡ Ok y → (f ≡ None) × (x ≡ y)
judged_ok None x y h = (refl, cc)
judged_ok (Some e) x y h = absurd cc

-- What was read of a text fits.
pub fits_read : (text : Text) (n : ℕ) (d : Data) (t : Tree) → read text ≡ Some d → tree_reading n d ≡ Ok t → TreeFits t
fits_read text n d t json h =
    let spelled = judged_ok (fault_left n false d) (tree_within n d) t (sym (tree_judged n d) ∙ h) in
    subst TreeFits spelled.1 (tree_fits n d (read_sorted text d json) spelled.0)
