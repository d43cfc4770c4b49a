-- What a canvas counts is no more than what its listing counts, where no signature is refused for
-- itself.
use Rattle.std.proofs.Common.{◌≡◌, ℕ, zero, suc, ◌+◌, ◌≤◌, Bool, true, false, List, [], ◌∷◌, ◌++◌, map, Option, Some, None, refl, arith}
use Rattle.std.specs.Prelude.{not, ◌||◌}
use Rattle.serde_json.specs.Data.{Data, null, boolean, number, string, array, object}
use Rattle.canvas_semantics.specs.Tree.{Task, Tree, one, chain, group, chord, Trees, no_trees, and_tree}
use Rattle.canvas_values.specs.Answers.{◌or_else◌}
use Rattle.canvas_values.specs.Fields.{subtype, tasks, header, body, link, link_error, items, listed, as_list, is_null, is_list}
use Rattle.canvas_values.specs.Grammar.{own_fault, fault_as, primitive_of, not_signature, is_group, members_in}
use Rattle.canvas_values.specs.Refusals.{first_fault, in_kwargs as data_in_kwargs, task_within, header_of, tree_from, tree_within}
use Rattle.canvas_values.specs.SignatureView.{trees_of}
use Rattle.canvas_values.specs.declared.fault.SigFault.{SigFault}
use Rattle.canvas_values.specs.declared.fault.SigFault.TheVariants.{NotSignature}
use Rattle.canvas_values.specs.declared.primitive.Primitive.{Primitive}
use Rattle.canvas_values.specs.declared.primitive.Primitive.TheVariants as kind
use Rattle.canvas_values.proofs.Law.{fault_left, quiet, neither, back, fine}
use Rattle.canvas_check.specs.FileOrder.{Sighted, behind, inside, in_each, in_kwargs, from_index, one_in, some_in, sighted_within}
use Rattle.canvas_check.specs.declared.step.Field.{Field}
use Rattle.canvas_check.specs.declared.step.Field.TheVariants as field
use Rattle.canvas_check.specs.declared.step.Step.{Step}
use Rattle.canvas_check.proofs.Counting.{number as count_of, number_both, LooksAtLast}

-- ---- what no fault says

pub both_quiet : (f g : Option SigFault) → (f or_else g) ≡ None → (f ≡ None) × (g ≡ None)
both_quiet None g h = (refl, h)
both_quiet (Some e) g h = absurd cc

pub first_then : (g : Data → Option SigFault) (ds : List Data) (d : Data) → first_fault g (ds ++ d ∷ []) ≡ None → (first_fault g ds ≡ None) × (g d ≡ None)
first_then g [] d h = (refl, (both_quiet (g d) None h).0)
first_then g (x ∷ ds) d h =
    let p = both_quiet (g x) (first_fault g (ds ++ d ∷ [])) h in
    let q = first_then g ds d p.1 in
    (rw p.0 q.0, q.1)

-- no fault of its own, and none of those in it
pub record Quiet (n : ℕ) (linked : Bool) (d : Data) : Type 0 where
  pub its_own : fault_as linked d (primitive_of (subtype d)) ≡ None
  pub kwargs : first_fault (fault_left n false) (data_in_kwargs (primitive_of (subtype d)) d) ≡ None
  pub links : first_fault (fault_left n true) (as_list (link d)) ≡ None
  pub errbacks : first_fault (fault_left n true) (as_list (link_error d)) ≡ None

pub all_quiet : (n : ℕ) (linked : Bool) (d : Data) → fault_left (suc n) linked d ≡ None → Quiet n linked d
all_quiet n linked d h =
    let first = both_quiet (own_fault linked d) _ h in
    let next = both_quiet (first_fault (fault_left n false) (data_in_kwargs (primitive_of (subtype d)) d)) _ first.1 in
    let last = both_quiet (first_fault (fault_left n true) (as_list (link d))) _ next.1 in
    record {
      its_own = (quiet (not_signature d) NotSignature _ first.0).1;
      kwargs = next.0;
      links = last.0;
      errbacks = last.1;
    }

pub fine_header : (linked : Bool) (d : Data) → fault_as linked d (Some kind.Chord) ≡ None
    → ((is_list (header d) || is_group (header d)) ≡ true) × (is_null (body d) ≡ false)
fine_header linked d h =
    let parts = neither (not (is_list (header d) || is_group (header d))) (is_null (body d)) (fine linked kind.Chord d h).its_members in
    (back (is_list (header d) || is_group (header d)) parts.0, parts.1)

-- ---- what is counted of a canvas, and which signatures of its listing

-- `own` is what a signature counts by its kind, `member` what a member of a group or header counts.
pub record Measure : Type 0 where
  pub test : Sighted → Bool
  pub own : Option Primitive → ℕ
  pub of : Tree → ℕ
  pub member : Tree → ℕ
  pub all : Trees → ℕ
  pub members : Trees → ℕ
  pub looks : LooksAtLast test
  pub none : all no_trees ≡ 0
  pub more : (t : Tree) (ts : Trees) → all (and_tree t ts) ≡ of t + all ts
  pub no_members : members no_trees ≡ 0
  pub more_members : (t : Tree) (ts : Trees) → members (and_tree t ts) ≡ member t + members ts
  pub of_chain : (ts : Trees) → of (chain ts) ≡ all ts
  pub of_group : (ms : Trees) → of (group 0 ms) ≡ own (Some kind.Group) + members ms
  pub of_chord : (h : Trees) (b : Tree) → of (chord 0 h b) ≡ own (Some kind.Chord) + members h + of b

abbrev pub at : Field → Option ℕ → Step
at f i = record { field = f; index = i }

-- what is known of the signatures that such a step leads to
abbrev pub Known : Measure → ℕ → Step → (Tree → ℕ) → Type 0
Known m n s weight =
    (x : Data) → fault_left n false x ≡ None → weight (tree_within n x) ≤ count_of m.test (map (behind (s ∷ [])) (sighted_within n false x))

pub record Inner (m : Measure) (n : ℕ) : Type 0 where
  pub element : (i : ℕ) → Known m n (at field.Elements (Some i)) m.of
  pub member : (i : ℕ) → Known m n (at field.Members (Some i)) m.member
  pub in_header : (i : ℕ) → Known m n (at field.Header (Some i)) m.member
  pub header_group : Known m n (at field.Header None) (λ t. m.members (members_in t))
  pub body : Known m n (at field.Body None) m.of

-- ---- one level

module _ (m : Measure) (n : ℕ) where
  abbrev seen : List (Step × Data) → ℕ
  seen es = count_of m.test (in_each (sighted_within n false) es)

  seen_both : (es gs : List (Step × Data)) → seen (es ++ gs) ≡ seen es + seen gs
  seen_both [] gs = omega arith
  seen_both (e ∷ es) gs =
      let here = map (behind (e.0 ∷ [])) (sighted_within n false e.1) in
      let rest : seen (es ++ gs) ≡ seen es + seen gs = seen_both es gs in
      let one : seen (e ∷ es ++ gs) ≡ count_of m.test here + seen (es ++ gs) = number_both m.test here (in_each (sighted_within n false) (es ++ gs)) in
      let other : seen (e ∷ es) ≡ count_of m.test here + seen es = number_both m.test here (in_each (sighted_within n false) es) in
      omega arith

  module _ (k : Field) (weight : Tree → ℕ) (all : Trees → ℕ) (none : all no_trees ≡ 0) (more : (t : Tree) (ts : Trees) → all (and_tree t ts)
      ≡ weight t + all ts)
      (known : (i : ℕ) → Known m n (at k (Some i)) weight) where
    each : (i : ℕ) (ds : List Data) → first_fault (fault_left n false) ds ≡ None → all (trees_of (map (tree_within n) ds)) ≤ seen (from_index k i ds)
    each i [] h = omega (arith, none)
    each i (d ∷ ds) h =
        let q = both_quiet (fault_left n false d) (first_fault (fault_left n false) ds) h in
        let here = map (behind (at k (Some i) ∷ [])) (sighted_within n false d) in
        let first : weight (tree_within n d) ≤ count_of m.test here = known i d q.0 in
        let others : all (trees_of (map (tree_within n) ds)) ≤ seen (from_index k (suc i) ds) = each (suc i) ds q.1 in
        let sum : all (trees_of (map (tree_within n) (d ∷ ds))) ≡ weight (tree_within n d) + all (trees_of (map (tree_within n) ds)) =
        more (tree_within n d) (trees_of (map (tree_within n) ds)) in
        let both : seen (from_index k i (d ∷ ds)) ≡ count_of m.test here + seen (from_index k (suc i) ds) =
        number_both m.test here (in_each (sighted_within n false) (from_index k (suc i) ds)) in
        omega arith

  module _ (inner : Inner m n) where
    one_step : (s : Step) (weight : Tree → ℕ) (d : Data) → Known m n s weight → fault_left n false d ≡ None → weight (tree_within n d) ≤ seen ((s, d) ∷ [])
    one_step s weight d known h =
        let here = map (behind (s ∷ [])) (sighted_within n false d) in
        let first : weight (tree_within n d) ≤ count_of m.test here = known d h in
        let both : seen ((s, d) ∷ []) ≡ count_of m.test here + 0 = number_both m.test here [] in
        omega arith

    of_header : (d : Data) → (is_list d || is_group d) ≡ true → first_fault (fault_left n false) (as_list d) ≡ None
        → m.members (header_of (tree_within n) d) ≤ seen (some_in field.Header d)
    of_header (array ds) fit h = each field.Header m.member m.members m.no_members m.more_members inner.in_header 0 (items ds) h
    of_header (object ms) fit h =
        one_step (at field.Header None) (λ t. m.members (members_in t)) (object ms) inner.header_group (both_quiet (fault_left n false (object ms)) None h).0
    of_header null fit h = absurd cc
    of_header (boolean b) fit h = absurd cc
    of_header (number x) fit h = absurd cc
    of_header (string s) fit h = absurd cc

    of_body : (d : Data) → is_null d ≡ false → fault_left n false d ≡ None → m.of (tree_within n d) ≤ seen (one_in field.Body d)
    of_body null there h = absurd cc
    of_body (array ds) there h = one_step (at field.Body None) m.of (array ds) inner.body h
    of_body (boolean b) there h = one_step (at field.Body None) m.of (boolean b) inner.body h
    of_body (number x) there h = one_step (at field.Body None) m.of (number x) inner.body h
    of_body (string s) there h = one_step (at field.Body None) m.of (string s) inner.body h
    of_body (object ms) there h = one_step (at field.Body None) m.of (object ms) inner.body h

    -- what a chain, a group or a chord counts
    of_kind : (t : Task) (p : Option Primitive) (d : Data) → fault_as false d p ≡ None → first_fault (fault_left n false) (data_in_kwargs p d) ≡ None
        → (rest : ℕ) → (p ≡ Some kind.Task → m.of (one t) ≤ m.own p + rest)
        → m.of (tree_from t (tree_within n) p d) ≤ m.own p + (seen (in_kwargs p d) + rest)
    of_kind t None d own h rest alone = absurd cc
    of_kind t (Some kind.Task) d own h rest alone = let only : m.of (one t) ≤ m.own (Some kind.Task) + rest = alone refl in omega arith
    of_kind t (Some kind.Chain) d own h rest alone =
        let elements = each field.Elements m.of m.all m.none m.more inner.element 0 (listed (tasks d)) h in
        omega (arith, elements, m.of_chain (trees_of (map (tree_within n) (listed (tasks d)))))
    of_kind t (Some kind.Group) d own h rest alone =
        let members = each field.Members m.member m.members m.no_members m.more_members inner.member 0 (listed (tasks d)) h in
        omega (arith, members, m.of_group (trees_of (map (tree_within n) (listed (tasks d)))))
    of_kind t (Some kind.Chord) d own h rest alone =
        let fit = fine_header false d own in
        let parts = first_then (fault_left n false) (as_list (header d)) (body d) h in
        let its_header = of_header (header d) fit.0 parts.0 in
        let its_body = of_body (body d) fit.1 parts.1 in
        omega (
          arith,
          its_header,
          its_body,
          m.of_chord (header_of (tree_within n) (header d)) (tree_within n (body d)),
          seen_both
              (some_in field.Header (header d)) (one_in field.Body (body d)),
        )

    -- and with what it counts itself
    pub of_level : (d : Data) → Quiet n false d → (primitive_of (subtype d) ≡ Some kind.Task
        → m.of (one (task_within (suc n) d)) ≤ m.own (primitive_of (subtype d))
        + count_of m.test (in_each (sighted_within n true) (some_in field.Links (link d)) ++ in_each (sighted_within n true) (some_in field.Errbacks
        (link_error d))))
        → m.of (tree_within (suc n) d) ≤ m.own (primitive_of (subtype d)) + count_of m.test (inside (sighted_within n) d)
    of_level d q alone =
        let rest = in_each (sighted_within n true) (some_in field.Links (link d)) ++ in_each (sighted_within n true) (some_in field.Errbacks (link_error d)) in
        let level = of_kind (task_within (suc n) d) (primitive_of (subtype d)) d q.its_own q.kwargs (count_of m.test rest) alone in
        omega (arith, level, number_both m.test (in_each (sighted_within n false) (in_kwargs (primitive_of (subtype d)) d)) rest)

-- nothing is known of what isn't looked at
pub nothing_inner : (m : Measure) → Inner m zero
nothing_inner m = record {
  element = λ i x h. absurd cc;
  member = λ i x h. absurd cc;
  in_header = λ i x h. absurd cc;
  header_group = λ x h. absurd cc;
  body = λ x h. absurd cc;
}
