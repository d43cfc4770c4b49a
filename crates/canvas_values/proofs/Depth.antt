-- The parts of a value are less deep than it, so its own depth as a bound leaves no signature out.
use Rattle.std.proofs.Common.{◌≡◌, ℕ, zero, suc, ◌<◌, ◌≤◌, List, [], ◌∷◌, ◌++◌, map, Bool, true, false, Option, Some, None, Ordering, Less, Equal, Greater, refl, sym, ap, ap₂, ◌∙◌, arith}
use Rattle.std.specs.Prelude.{codes, unwrap_or}
use Rattle.std.specs.Cmp.Lexicographic.{slice_cmp}
use Rattle.std.specs.Ordering.{nat_cmp, match_ordering}
use Rattle.serde_json.specs.Data.{Data, null, boolean, number, string, array, object, Items, no_items, item, Members, no_members, member, depth, items_depth, members_depth}
use Rattle.serde_json.specs.Find.{get_member}
use Rattle.canvas_values.specs.declared.fault.SigFault.{SigFault}
use Rattle.canvas_values.specs.declared.primitive.Primitive.{Primitive}
use Rattle.canvas_values.specs.declared.primitive.Primitive.TheVariants as kind
use Rattle.canvas_values.specs.Refusals.{first_fault, in_kwargs, fault_within, spelled_call, task_within, header_of, tree_from, tree_within, signature_fault, tree_said}
use Rattle.canvas_values.specs.ByParts.{FaultsByParts, TasksByParts, TreesByParts}
use Rattle.canvas_task.specs.Text.{Text}
use Rattle.canvas_values.specs.Fields.{field, subtype, tasks, header, body, link, link_error, items, listed, as_list}
use Rattle.canvas_values.specs.Answers.{◌or_else◌}
use Rattle.canvas_values.specs.Grammar.{own_fault, primitive_of, members_in}
use Rattle.canvas_semantics.specs.Tree.{Task, task, Tree, one, chain, group, chord}
use Rattle.canvas_values.specs.SignatureView.{tasks_of, trees_of}
use Rattle.canvas_values.proofs.Law.{fault_left}

-- ---- what a look-up finds

placed : (o : Ordering) (e : Data) (a : Option Data) (n : ℕ) → depth e ≤ n → depth (unwrap_or a null) ≤ n
    → depth (unwrap_or (match_ordering o a (Some e) a) null) ≤ n
placed Less e a n p q = q
placed Equal e a n p q = p
placed Greater e a n p q = q

member_low : (k : Text) (ms : Members) (n : ℕ) → members_depth ms ≤ n → depth (unwrap_or (get_member k ms) null) ≤ n
member_low k no_members n h = omega arith
member_low k (member l e ms) n h = placed (slice_cmp nat_cmp k l) e (get_member k ms) n (omega arith) (member_low k ms n (omega arith))

pub field_low : (k : Text) (d : Data) (n : ℕ) → depth d ≤ suc n → depth (field k d) ≤ n
field_low k (object ms) n h = member_low k ms n (omega arith)
field_low k null n h = omega arith
field_low k (boolean b) n h = omega arith
field_low k (number x) n h = omega arith
field_low k (string s) n h = omega arith
field_low k (array ds) n h = omega arith

-- no deeper than the number, each of them
abbrev pub AllLow : ℕ → List Data → Type 0
AllLow n [] = Unit {0}
AllLow n (d ∷ ds) = (depth d ≤ n) × AllLow n ds

items_low : (ds : Items) (n : ℕ) → items_depth ds ≤ n → AllLow n (items ds)
items_low no_items n h = tt
items_low (item d ds) n h = (omega arith, items_low ds n (omega arith))

as_list_low : (d : Data) (n : ℕ) → depth d ≤ n → AllLow n (as_list d)
as_list_low (array ds) n h = items_low ds n (omega arith)
as_list_low null n h = tt
as_list_low (boolean b) n h = (h, tt)
as_list_low (number x) n h = (h, tt)
as_list_low (string s) n h = (h, tt)
as_list_low (object ms) n h = (h, tt)

pub listed_low : (d : Data) (n : ℕ) → depth d ≤ n → AllLow n (listed d)
listed_low (array ds) n h = items_low ds n (omega arith)
listed_low null n h = tt
listed_low (boolean b) n h = tt
listed_low (number x) n h = tt
listed_low (string s) n h = tt
listed_low (object ms) n h = tt

and_last : (ds : List Data) (d : Data) (n : ℕ) → AllLow n ds → depth d ≤ n → AllLow n (ds ++ d ∷ [])
and_last [] d n h low = (low, tt)
and_last (x ∷ ds) d n h low = (h.0, and_last ds d n h.1 low)

-- a member of a member
pub inner_low : (k l : Text) (d : Data) (n : ℕ) → depth d ≤ suc n → depth (field k (field l d)) ≤ n
inner_low k l d n h = let outer = field_low l d n h in field_low k (field l d) n (omega arith)

kwargs_low : (p : Option Primitive) (d : Data) (n : ℕ) → depth d ≤ suc n → AllLow n (in_kwargs p d)
kwargs_low None d n h = tt
kwargs_low (Some kind.Task) d n h = tt
kwargs_low (Some kind.Chain) d n h = listed_low (tasks d) n (inner_low (codes "tasks") (codes "kwargs") d n h)
kwargs_low (Some kind.Group) d n h = listed_low (tasks d) n (inner_low (codes "tasks") (codes "kwargs") d n h)
kwargs_low (Some kind.Chord) d n h =
    and_last (as_list (header d)) (body d) n (as_list_low (header d) n (inner_low (codes "header") (codes "kwargs") d n h)) (inner_low (codes "body") (codes "kwargs") d n h)

pub link_low : (k : Text) (d : Data) (n : ℕ) → depth d ≤ suc n → AllLow n (as_list (field k (field (codes "options") d)))
link_low k d n h = as_list_low (field k (field (codes "options") d)) n (inner_low k (codes "options") d n h)

-- ---- functions that agree on what is low

module _ (n : ℕ) where
  same_faults : (f g : Data → Option SigFault) → ((d : Data) → depth d ≤ n → f d ≡ g d) → (ds : List Data) → AllLow n ds → first_fault f ds ≡ first_fault g ds
  same_faults f g same [] low = refl
  same_faults f g same (d ∷ ds) low = ap₂ (λ a b. a or_else b) (same d low.0) (same_faults f g same ds low.1)

  pub same_map : {B : Type 0} (f g : Data → B) → ((d : Data) → depth d ≤ n → f d ≡ g d) → (ds : List Data) → AllLow n ds → map f ds ≡ map g ds
  same_map f g same [] low = refl
  same_map f g same (d ∷ ds) low = ap₂ (λ a b. a ∷ b) (same d low.0) (same_map f g same ds low.1)

-- ---- the first fault

-- a value that is neither a list nor an object has no parts, and it is no signature
flat_fault : (m : ℕ) (linked : Bool) (d : Data) → depth d ≤ 0 → fault_left (suc m) linked d ≡ own_fault linked d
flat_fault m linked null low = refl
flat_fault m linked (boolean b) low = refl
flat_fault m linked (number x) low = refl
flat_fault m linked (string s) low = refl
flat_fault m linked (array ds) low = absurd (omega arith)
flat_fault m linked (object ms) low = absurd (omega arith)

enough_faults : (m n : ℕ) (linked : Bool) (d : Data) → depth d ≤ n → n < m → fault_left m linked d ≡ fault_within n linked d
enough_faults zero n linked d low h = absurd (omega arith)
enough_faults (suc m) zero linked d low h = flat_fault m linked d low
enough_faults (suc m) (suc n) linked d low h =
    let inside = same_faults n (fault_left m false) (fault_within n false) (λ x l. enough_faults m n false x l (omega arith))
    (in_kwargs (primitive_of (subtype d)) d) (kwargs_low (primitive_of (subtype d)) d n low) in
    let links = same_faults n (fault_left m true) (fault_within n true) (λ x l. enough_faults m n true x l (omega arith)) (as_list (link d)) (link_low (codes "link") d n low) in
    let errbacks = same_faults n (fault_left m true) (fault_within n true) (λ x l. enough_faults m n true x l (omega arith)) (as_list (link_error d)) (link_low (codes "link_error") d n low) in
    rw (inside, links, errbacks) refl

-- a greater number changes nothing
any_fault : (n : ℕ) (linked : Bool) (d : Data) → depth d ≤ n → fault_within n linked d ≡ fault_within (depth d) linked d
any_fault n linked d low = sym (enough_faults (suc n) n linked d low (omega arith)) ∙ enough_faults (suc n) (depth d) linked d (omega arith) (omega arith)

pub faults_by_parts : FaultsByParts
faults_by_parts linked d =
    let n = depth d in
    let inside = same_faults n (fault_within n false) (λ x. fault_within (depth x) false x) (any_fault n false) (in_kwargs (primitive_of (subtype d)) d)
    (kwargs_low (primitive_of (subtype d)) d n (omega arith)) in
    let links = same_faults n (fault_within n true) (λ x. fault_within (depth x) true x) (any_fault n true) (as_list (link d)) (link_low (codes "link") d n (omega arith)) in
    let errbacks = same_faults n (fault_within n true) (λ x. fault_within (depth x) true x) (any_fault n true) (as_list (link_error d)) (link_low (codes "link_error") d n (omega arith)) in
    sym (any_fault (suc n) linked d (omega arith)) ∙ rw (inside, links, errbacks) refl

-- ---- what is spelled

enough_task : (m n : ℕ) (d : Data) → depth d ≤ n → n ≤ m → task_within m d ≡ task_within n d
enough_task zero zero d low h = refl
enough_task zero (suc n) d low h = absurd (omega arith)
enough_task (suc m) zero null low h = refl
enough_task (suc m) zero (boolean b) low h = refl
enough_task (suc m) zero (number x) low h = refl
enough_task (suc m) zero (string s) low h = refl
enough_task (suc m) zero (array ds) low h = absurd (omega arith)
enough_task (suc m) zero (object ms) low h = absurd (omega arith)
enough_task (suc m) (suc n) d low h =
    let same : (x : Data) → depth x ≤ n → task_within m x ≡ task_within n x = λ x l. enough_task m n x l (omega arith) in
    ap₂ (λ ls es. task 0 (spelled_call d) (tasks_of ls) (tasks_of es))
    (same_map n (task_within m) (task_within n) same (as_list (link d)) (link_low (codes "link") d n low))
    (same_map n (task_within m) (task_within n) same (as_list (link_error d)) (link_low (codes "link_error") d n low))

module _ (n : ℕ) (f g : Data → Tree) (same : (d : Data) → depth d ≤ n → f d ≡ g d) where
  same_header : (d : Data) → depth d ≤ n → header_of f d ≡ header_of g d
  same_header (array ds) low = ap trees_of (same_map n f g same (items ds) (items_low ds n (omega arith)))
  same_header null low = ap members_in (same null low)
  same_header (boolean b) low = ap members_in (same (boolean b) low)
  same_header (number x) low = ap members_in (same (number x) low)
  same_header (string s) low = ap members_in (same (string s) low)
  same_header (object ms) low = ap members_in (same (object ms) low)

  same_from : (t u : Task) (p : Option Primitive) (d : Data) → t ≡ u → depth d ≤ suc n → tree_from t f p d ≡ tree_from u g p d
  same_from t u None d e low = ap one e
  same_from t u (Some kind.Task) d e low = ap one e
  same_from t u (Some kind.Chain) d e low = ap (λ ts. chain (trees_of ts)) (same_map n f g same (listed (tasks d)) (kwargs_low (Some kind.Chain) d n low))
  same_from t u (Some kind.Group) d e low = ap (λ ts. group 0 (trees_of ts)) (same_map n f g same (listed (tasks d)) (kwargs_low (Some kind.Group) d n low))
  same_from t u (Some kind.Chord) d e low =
      ap₂ (chord 0) (same_header (header d) (inner_low (codes "header") (codes "kwargs") d n low)) (same (body d) (inner_low (codes "body") (codes "kwargs") d n low))

pub enough_trees : (m n : ℕ) (d : Data) → depth d ≤ n → n ≤ m → tree_within m d ≡ tree_within n d
enough_trees zero zero d low h = refl
enough_trees zero (suc n) d low h = absurd (omega arith)
enough_trees (suc m) zero null low h = refl
enough_trees (suc m) zero (boolean b) low h = refl
enough_trees (suc m) zero (number x) low h = refl
enough_trees (suc m) zero (string s) low h = refl
enough_trees (suc m) zero (array ds) low h = absurd (omega arith)
enough_trees (suc m) zero (object ms) low h = absurd (omega arith)
enough_trees (suc m) (suc n) d low h =
    same_from n (tree_within m) (tree_within n) (λ x l. enough_trees m n x l (omega arith)) (task_within (suc m) d) (task_within (suc n) d)
    (primitive_of (subtype d)) d (enough_task (suc m) (suc n) d low h) low

pub tasks_by_parts : TasksByParts
tasks_by_parts d =
    let n = depth d in
    let same : (x : Data) → depth x ≤ n → task_within n x ≡ task_within (depth x) x = λ x l. enough_task n (depth x) x (omega arith) l in
    sym (enough_task (suc n) n d (omega arith) (omega arith))
    ∙ ap₂ (λ ls es. task 0 (spelled_call d) (tasks_of ls) (tasks_of es))
    (same_map n (task_within n) (λ x. task_within (depth x) x) same (as_list (link d)) (link_low (codes "link") d n (omega arith)))
    (same_map n (task_within n) (λ x. task_within (depth x) x) same (as_list (link_error d)) (link_low (codes "link_error") d n (omega arith)))

pub trees_by_parts : TreesByParts
unfolding tree_said
trees_by_parts d =
    let n = depth d in
    sym (enough_trees (suc n) n d (omega arith) (omega arith))
    ∙ same_from n (tree_within n) (λ x. tree_within (depth x) x) (λ x l. enough_trees n (depth x) x (omega arith) l) (task_within (suc n) d) (task_within n d)
    (primitive_of (subtype d)) d (enough_task (suc n) n d (omega arith) (omega arith)) (omega arith)

-- ---- a counter that starts above the depth

pub fault_enough : (m : ℕ) (d : Data) → depth d < m → fault_left m false d ≡ signature_fault d
unfolding signature_fault
fault_enough m d h = enough_faults m (depth d) false d (omega arith) h

pub tree_enough : (m : ℕ) (d : Data) → depth d < m → tree_within m d ≡ tree_said d
unfolding tree_said
tree_enough m d h = enough_trees m (depth d) d (omega arith) (omega arith)
