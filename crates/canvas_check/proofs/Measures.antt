-- The tasks, the groups and chords, and the members that end in a group: a canvas has no more of
-- them than its listing.
use Rattle.std.proofs.Common.{◌≡◌, ℕ, zero, suc, ◌+◌, ◌≤◌, Bool, true, false, List, [], ◌∷◌, ◌++◌, map, Option, Some, None, refl, sym, ap, subst, ◌∙◌, arith}
use Rattle.std.specs.Prelude.{◌&&◌, not}
use Rattle.serde_json.specs.Data.{Data}
use Rattle.canvas_semantics.specs.Tree.{Task, Tree, one, chain, group, chord, count_task, count_tasks, count, count_all, count_groups, count_all_groups}
use Rattle.canvas_values.specs.Fields.{subtype, link, link_error, as_list}
use Rattle.canvas_values.specs.Grammar.{primitive_of, members_in}
use Rattle.canvas_values.specs.Refusals.{first_fault, task_within, tree_from, tree_within}
use Rattle.canvas_values.specs.SignatureView.{tasks_of}
use Rattle.canvas_values.specs.declared.fault.SigFault.{SigFault}
use Rattle.canvas_values.specs.declared.primitive.Primitive.{Primitive}
use Rattle.canvas_values.specs.declared.primitive.Primitive.TheVariants as kind
use Rattle.canvas_values.proofs.Law.{fault_left, only_task}
use Rattle.canvas_check.specs.FileOrder.{Sighted, behind, itself, inside, in_each, in_kwargs, some_in, sighted_within}
use Rattle.canvas_check.specs.Limits.{kind_of, is_task_kind, is_group_kind, is_header_group, is_task, is_counted_group}
use Rattle.canvas_check.specs.declared.step.Field.{Field}
use Rattle.canvas_check.specs.declared.step.Field.TheVariants as field
use Rattle.canvas_check.specs.declared.step.Step.{Step}
use Rattle.canvas_check.proofs.FirstFault.{data_of, of_some}
use Rattle.canvas_check.proofs.Counting.{number, number_both, one_if, last_behind, behind_level}
use Rattle.canvas_check.proofs.Reckoning.{both_quiet, Quiet, all_quiet, Measure, Known, Inner, at, of_level, nothing_inner}

trans_le : {a b c : ℕ} → a ≤ b → b ≤ c → a ≤ c
trans_le h k = omega arith

zero_more : (n : ℕ) → 0 + n ≡ n
zero_more n = omega arith

-- ---- tasks

abbrev tasks_measure : Measure
tasks_measure = record {
  test = is_task;
  own = λ p. one_if (is_task_kind p);
  of = count;
  member = count;
  all = count_all;
  members = count_all;
  looks = λ s e x. refl;
  none = refl;
  more = λ t ts. refl;
  no_members = refl;
  more_members = λ t ts. refl;
  of_chain = λ ts. refl;
  of_group = λ ms. omega arith;
  of_chord = λ h b. omega arith;
}

tasks_behind : (s : Step) (xs : List Sighted) → number is_task (map (behind (s ∷ [])) xs) ≡ number is_task xs
tasks_behind s [] = refl
tasks_behind s (x ∷ xs) = ap (λ n. one_if (is_task x) + n) (tasks_behind s xs)

module _ (f : Data → Task) (q : Data → Option SigFault) (g : Data → List Sighted) (seen : (d : Data) → q d
    ≡ None → count_task (f d) ≤ number is_task (g d)) where
  each_task : (es : List (Step × Data)) → first_fault q (data_of es) ≡ None → count_tasks (tasks_of (map f (data_of es))) ≤ number is_task (in_each g es)
  each_task [] h = omega arith
  each_task (e ∷ es) h =
      let p = both_quiet (q e.1) (first_fault q (data_of es)) h in
      let first : count_task (f e.1) ≤ number is_task (g e.1) = seen e.1 p.0 in
      let rest : count_tasks (tasks_of (map f (data_of es))) ≤ number is_task (in_each g es) = each_task es p.1 in
      omega (arith, number_both is_task (map (behind (e.0 ∷ [])) (g e.1)) (in_each g es), tasks_behind e.0 (g e.1))

  some_tasks : (k : Field) (d : Data) → first_fault q (as_list d) ≡ None → count_tasks (tasks_of (map f (as_list d))) ≤ number is_task (in_each g (some_in k d))
  some_tasks k d h =
      subst (λ ds. first_fault q ds ≡ None → count_tasks (tasks_of (map f ds)) ≤ number is_task (in_each g (some_in k d))) (of_some k d)
      (each_task (some_in k d)) h

-- the links and error callbacks of a task
links_seen : (n : ℕ) → ((d : Data) → fault_left n true d ≡ None → count_task (task_within n d) ≤ number is_task (sighted_within n true d))
    → (linked : Bool) (d : Data) → Quiet n linked d
    → count_task (task_within (suc n) d)
    ≤ 1 + number is_task (in_each (sighted_within n true) (some_in field.Links (link d)) ++ in_each (sighted_within n true) (some_in field.Errbacks
    (link_error d)))
links_seen n seen linked d q =
    let links = some_tasks (task_within n) (fault_left n true) (sighted_within n true) seen field.Links (link d) q.links in
    let errbacks = some_tasks (task_within n) (fault_left n true) (sighted_within n true) seen field.Errbacks (link_error d) q.errbacks in
    omega (
      arith,
      links,
      errbacks,
      number_both is_task (in_each (sighted_within n true) (some_in field.Links (link d))) (in_each
          (sighted_within n true) (some_in field.Errbacks (link_error d))),
    )

linked_seen : (n : ℕ) (d : Data) → fault_left n true d ≡ None → count_task (task_within n d) ≤ number is_task (sighted_within n true d)
linked_seen zero d h = absurd cc
linked_seen (suc n) d h =
    let q = all_quiet n true d h in
    let here : one_if (is_task_kind (primitive_of (subtype d))) ≡ 1 = ap (λ p. one_if (is_task_kind p)) (only_task d (primitive_of (subtype d)) q.its_own) in
    let more = in_each (sighted_within n true) (some_in field.Links (link d)) ++ in_each (sighted_within n true) (some_in field.Errbacks (link_error d)) in
    omega (
      arith,
      here,
      links_seen n (linked_seen n) true d q,
      number_both is_task (in_each (sighted_within n false) (in_kwargs (primitive_of
          (subtype d)) d)) more,
    )

tasks_level : (n : ℕ) → Inner tasks_measure n → (d : Data) → fault_left (suc n) false d ≡ None
    → count (tree_within (suc n) d) ≤ number is_task (sighted_within (suc n) false d)
tasks_level n inner d h =
    let q = all_quiet n false d h in
    of_level tasks_measure n inner d q (λ is. task_alone (primitive_of (subtype d)) _ _ is (links_seen n (linked_seen n) false d q))
  where
    task_alone : (p : Option Primitive) (a b : ℕ) → p ≡ Some kind.Task → a ≤ 1 + b → a ≤ one_if (is_task_kind p) + b
    task_alone p a b is less = rw is (less)

members_count : (t : Tree) → count_all (members_in t) ≤ count t
members_count (one t) = omega arith
members_count (chain ts) = omega arith
members_count (group g ms) = omega arith
members_count (chord g h b) = omega arith

tasks_inner : (n : ℕ) → Inner tasks_measure n
tasks_inner zero = nothing_inner tasks_measure
tasks_inner (suc n) =
    let known : (s : Step) → Known tasks_measure (suc n) s count =
    λ s d h. subst (λ k. count (tree_within (suc n) d) ≤ k) (sym (tasks_behind s (sighted_within (suc n) false d))) (tasks_level n (tasks_inner n) d h) in
    record {
      element = λ i. known (at field.Elements (Some i));
      member = λ i. known (at field.Members (Some i));
      in_header = λ i. known (at field.Header (Some i));
      header_group = λ d h. trans_le (members_count (tree_within (suc n) d)) (known (at field.Header None) d h);
      body = known (at field.Body None);
    }

pub tasks_seen : (n : ℕ) (d : Data) → fault_left (suc n) false d ≡ None → count (tree_within (suc n) d) ≤ number is_task (sighted_within (suc n) false d)
tasks_seen n d h = tasks_level n (tasks_inner n) d h

-- ---- groups and chords

abbrev groups_measure : Measure
groups_measure = record {
  test = is_counted_group;
  own = λ p. one_if (is_group_kind p);
  of = count_groups;
  member = count_groups;
  all = count_all_groups;
  members = count_all_groups;
  looks = λ s e x. ap (λ o. is_group_kind (kind_of x.signature) && not (is_header_group o)) (last_behind s e x.steps);
  none = refl;
  more = λ t ts. refl;
  no_members = refl;
  more_members = λ t ts. refl;
  of_chain = λ ts. refl;
  of_group = λ ms. refl;
  of_chord = λ h b. refl;
}

and_true : (b : Bool) → one_if (b && true) ≡ one_if b
and_true true = refl
and_true false = refl

groups_level : (n : ℕ) → Inner groups_measure n → (d : Data) → fault_left (suc n) false d ≡ None
    → count_groups (tree_within (suc n) d) ≤ one_if (is_group_kind (primitive_of (subtype d))) + number is_counted_group (inside (sighted_within n) d)
groups_level n inner d h = of_level groups_measure n inner d (all_quiet n false d h) (λ is. omega arith)

-- a header's group signature isn't counted beside its chord
header_counts : (t : Task) (f : Data → Tree) (p : Option Primitive) (d : Data)
    → count_all_groups (members_in (tree_from t f p d)) + one_if (is_group_kind p) ≤ count_groups (tree_from t f p d)
header_counts t f None d = omega arith
header_counts t f (Some kind.Task) d = omega arith
header_counts t f (Some kind.Chain) d = omega arith
header_counts t f (Some kind.Group) d = omega arith
header_counts t f (Some kind.Chord) d = omega arith

less_own : (a b c k : ℕ) → a + c ≤ b → b ≤ c + k → a ≤ k
less_own a b c k h g = omega arith

and_none : (b : Bool) → one_if (b && false) ≡ 0
and_none true = refl
and_none false = refl

groups_inner : (n : ℕ) → Inner groups_measure n
groups_inner zero = nothing_inner groups_measure
groups_inner (suc n) =
    let counted : Step → Data → ℕ = λ s d. number is_counted_group (map (behind (s ∷ [])) (sighted_within (suc n) false d)) in
    let inner_of : Data → ℕ = λ d. number is_counted_group (inside (sighted_within n) d) in
    let own : Data → Bool = λ d. is_group_kind (primitive_of (subtype d)) in
    let known : (s : Step) (d : Data) → one_if (is_counted_group (behind (s ∷ []) (itself false d))) ≡ one_if (own d) → fault_left (suc n) false d
    ≡ None → count_groups (tree_within (suc n) d) ≤ counted s d =
    λ s d is h. subst (λ k. count_groups (tree_within (suc n) d) ≤ k)
    (sym (behind_level is_counted_group groups_measure.looks s n false d ∙ ap (λ k. k + inner_of d) is)) (groups_level n (groups_inner n) d h) in
    record {
      element = λ i d. known (at field.Elements (Some i)) d (and_true (own d));
      member = λ i d. known (at field.Members (Some i)) d (and_true (own d));
      in_header = λ i d. known (at field.Header (Some i)) d (and_true (own d));
      header_group = λ d h. subst (λ k. count_all_groups (members_in (tree_within (suc n) d)) ≤ k)
          (sym (behind_level is_counted_group groups_measure.looks (at field.Header None) n false d ∙ ap (λ k. k + inner_of d) (and_none (own d))
          ∙ zero_more (inner_of d)))
          (less_own _ _ (one_if (own d)) _ (header_counts (task_within (suc n) d) (tree_within n) (primitive_of (subtype d)) d) (groups_level n
          (groups_inner n) d h));
      body = λ d. known (at field.Body None) d (and_true (own d));
    }

pub groups_seen : (n : ℕ) (d : Data) → fault_left (suc n) false d ≡ None
    → count_groups (tree_within (suc n) d) ≤ number is_counted_group (sighted_within (suc n) false d)
groups_seen n d h =
    subst (λ k. count_groups (tree_within (suc n) d) ≤ k + number is_counted_group (inside (sighted_within n) d)) (sym (and_true (is_group_kind
    (primitive_of (subtype d)))))
    (groups_level n (groups_inner n) d h)
