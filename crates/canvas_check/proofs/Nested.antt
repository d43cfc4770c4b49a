-- Members that end in a group: a canvas has no more of them than its listing.
use Rattle.std.proofs.Common.{◌≡◌, ℕ, zero, suc, ◌+◌, ◌<◌, ◌≤◌, Bool, true, false, List, [], ◌∷◌, map, Option, Some, None, refl, ap, subst, ◌∙◌, arith}
use Rattle.std.specs.Prelude.{◌&&◌, ◌||◌}
use Rattle.serde_json.specs.Data.{Data}
use Rattle.canvas_semantics.specs.Tree.{Task, Tree, one, chain, group, chord, Trees, no_trees, and_tree, ends_in_group as ends_so, last_in_group}
use Rattle.canvas_semantics.specs.Bounds.{nests_group, some_nests_group, some_ends_in_group}
use Rattle.canvas_values.specs.Fields.{subtype, tasks, header, body, listed, as_list}
use Rattle.canvas_values.specs.Grammar.{primitive_of, members_in}
use Rattle.canvas_values.specs.Refusals.{first_fault, in_kwargs as data_in_kwargs, task_within, tree_from, tree_within}
use Rattle.canvas_values.specs.SignatureView.{trees_of}
use Rattle.canvas_values.specs.declared.fault.SigFault.{SigFault}
use Rattle.canvas_values.specs.declared.primitive.Primitive.{Primitive}
use Rattle.canvas_values.specs.declared.primitive.Primitive.TheVariants as kind
use Rattle.canvas_values.proofs.Law.{fault_left}
use Rattle.canvas_check.specs.FileOrder.{Sighted, behind, itself, inside, sighted_within}
use Rattle.canvas_check.specs.Limits.{last_of, in_some, ends_where, ends_in_group, steps_to_member}
use Rattle.canvas_check.specs.declared.step.Field.TheVariants as field
use Rattle.canvas_check.specs.declared.step.Step.{Step}
use Rattle.canvas_check.proofs.Counting.{number, one_if, last_behind, behind_level}
use Rattle.canvas_check.proofs.Reckoning.{both_quiet, first_then, all_quiet, Measure, Inner, at, of_level, nothing_inner}

-- ---- the members of a canvas that end in a group

abbrev mutual
  pub nests : Tree → ℕ
  nests (one t) = 0
  nests (chain ts) = all_nests ts
  nests (group g ms) = member_nests ms
  nests (chord g h b) = member_nests h + nests b

  pub all_nests : Trees → ℕ
  all_nests no_trees = 0
  all_nests (and_tree t ts) = nests t + all_nests ts

  pub member_nests : Trees → ℕ
  member_nests no_trees = 0
  member_nests (and_tree t ts) = one_if (ends_so t) + nests t + member_nests ts

either_one : (a b : Bool) → one_if (a || b) ≤ one_if a + one_if b
either_one true b = omega arith
either_one false b = omega arith

either_of_both : (a b c d : Bool) → one_if ((a || b) || (c || d)) ≤ one_if a + one_if c + one_if (b || d)
either_of_both true b c d = omega arith
either_of_both false true c d = omega arith
either_of_both false false c d = let one = either_one c d in omega (arith, one)

mutual
  nests_one : (t : Tree) → one_if (nests_group t) ≤ nests t
  nests_one (one t) = omega arith
  nests_one (chain ts) = nests_all ts
  nests_one (group g ms) = nests_members ms
  nests_one (chord g h b) =
      omega (arith, either_one (some_ends_in_group h || some_nests_group h) (nests_group b), nests_members h, nests_one b)

  nests_all : (ts : Trees) → one_if (some_nests_group ts) ≤ all_nests ts
  nests_all no_trees = omega arith
  nests_all (and_tree t ts) = omega (arith, either_one (nests_group t) (some_nests_group ts), nests_one t, nests_all ts)

  nests_members : (ts : Trees) → one_if (some_ends_in_group ts || some_nests_group ts) ≤ member_nests ts
  nests_members no_trees = omega arith
  nests_members (and_tree t ts) =
      omega (arith, either_of_both (ends_so t) (some_ends_in_group ts) (nests_group t) (some_nests_group ts), nests_one t, nests_members ts)

-- ---- what the line of a signature ends in

module _ (f : Data → Bool) (g : Data → Tree) (q : Data → Option SigFault) (same : (d : Data) → q d ≡ None → f d ≡ ends_so (g d)) where
  same_last : (ds : List Data) → first_fault q ds ≡ None → in_some f (last_of ds) ≡ last_in_group (trees_of (map g ds))
  same_last [] h = refl
  same_last (d ∷ []) h = same d (both_quiet (q d) None h).0
  same_last (d ∷ e ∷ ds) h = ap (in_some f) (last_behind d e ds) ∙ same_last (e ∷ ds) (both_quiet (q d) (first_fault q (e ∷ ds)) h).1

  same_kind : (t : Task) (p : Option Primitive) (d : Data) → first_fault q (data_in_kwargs p d) ≡ None → ends_where f p d ≡ ends_so (tree_from t g p d)
  same_kind t None d h = refl
  same_kind t (Some kind.Task) d h = refl
  same_kind t (Some kind.Chain) d h = same_last (listed (tasks d)) h
  same_kind t (Some kind.Group) d h = refl
  same_kind t (Some kind.Chord) d h = same (body d) (first_then q (as_list (header d)) (body d) h).1

same_end : (n levels : ℕ) → n ≤ levels → (d : Data) → fault_left n false d ≡ None → ends_in_group levels d ≡ ends_so (tree_within n d)
same_end zero levels low d h = absurd cc
same_end (suc n) zero low d h = absurd (omega arith)
same_end (suc n) (suc levels) low d h =
    same_kind (ends_in_group levels) (tree_within n) (fault_left n false) (same_end n levels (omega arith)) (task_within (suc n) d)
    (primitive_of (subtype d)) d (all_quiet n false d h).kwargs

-- ---- the signatures of a listing

-- nested, as a look at a given number of levels finds
abbrev pub nested_by : ℕ → Sighted → Bool
nested_by levels s = steps_to_member (last_of s.steps) && ends_in_group levels s.signature

abbrev nested_measure : ℕ → Measure
nested_measure levels = record {
  test = nested_by levels;
  own = λ p. 0;
  of = nests;
  member = λ t. one_if (ends_so t) + nests t;
  all = all_nests;
  members = member_nests;
  looks = λ s e x. ap (λ o. steps_to_member o && ends_in_group levels x.signature) (last_behind s e x.steps);
  none = refl;
  more = λ t ts. refl;
  no_members = refl;
  more_members = λ t ts. refl;
  of_chain = λ ts. refl;
  of_group = λ ms. omega arith;
  of_chord = λ h b. omega arith;
}

module _ (levels : ℕ) where
  nested_level : (n : ℕ) → Inner (nested_measure levels) n → (d : Data) → fault_left (suc n) false d ≡ None
      → nests (tree_within (suc n) d) ≤ 0 + number (nested_by levels) (inside (sighted_within n) d)
  nested_level n inner d h = of_level (nested_measure levels) n inner d (all_quiet n false d h) (λ is. omega arith)

  header_nests : (t : Tree) → member_nests (members_in t) ≤ nests t
  header_nests (one t) = omega arith
  header_nests (chain ts) = omega arith
  header_nests (group g ms) = omega arith
  header_nests (chord g h b) = omega arith

  nested_inner : (n : ℕ) → n ≤ levels → Inner (nested_measure levels) n
  nested_inner zero low = nothing_inner (nested_measure levels)
  nested_inner (suc n) low =
      let counted : Step → Data → ℕ = λ s d. number (nested_by levels) (map (behind (s ∷ [])) (sighted_within (suc n) false d)) in
      let known : (s : Step) (d : Data) → fault_left (suc n) false d ≡ None
      → one_if (nested_by levels (behind (s ∷ []) (itself false d))) + nests (tree_within (suc n) d) ≤ counted s d =
      λ s d h. more_than (one_if (nested_by levels (behind (s ∷ []) (itself false d)))) _ _ _
      (behind_level (nested_by levels) (nested_measure levels).looks s n false d) (nested_level n (nested_inner n (omega arith)) d h) in
      let ends : (d : Data) → fault_left (suc n) false d ≡ None → ends_in_group levels d
      ≡ ends_so (tree_within (suc n) d) = λ d h. same_end (suc n) levels low d h in
      record {
        element = λ i d h. without _ _ _ (known (at field.Elements (Some i)) d h);
        member = λ i d h. subst (λ b. one_if b + nests (tree_within (suc n) d) ≤ counted (at field.Members (Some i)) d) (ends d h) (known
            (at field.Members (Some i)) d h);
        in_header = λ i d h. subst (λ b. one_if b + nests (tree_within (suc n) d) ≤ counted (at field.Header (Some i)) d) (ends d h) (known
            (at field.Header (Some i)) d h);
        header_group = λ d h. less_than _ _ _ (header_nests (tree_within (suc n) d)) (without _ _ _ (known (at field.Header None) d h));
        body = λ d h. without _ _ _ (known (at field.Body None) d h);
      }
    where
      more_than : (a b c k : ℕ) → k ≡ a + c → b ≤ 0 + c → a + b ≤ k
      more_than a b c k is less = omega arith

      without : (a b c : ℕ) → a + b ≤ c → b ≤ c
      without a b c h = omega arith

      less_than : (a b c : ℕ) → a ≤ b → b ≤ c → a ≤ c
      less_than a b c h k = omega arith

  pub nested_seen : (n : ℕ) → n ≤ levels → (d : Data) → fault_left (suc n) false d ≡ None
      → nests_group (tree_within (suc n) d) ≡ true → 0 < number (nested_by levels) (sighted_within (suc n) false d)
  nested_seen n low d h is =
      let some : one_if (nests_group (tree_within (suc n) d)) ≡ 1 = ap one_if is in
      let less = nests_one (tree_within (suc n) d) in
      let seen = nested_level n (nested_inner n low) d h in
      there (one_if (nested_by levels (itself false d))) _ _ _ some less seen
    where
      there : (a b c k : ℕ) → b ≡ 1 → b ≤ c → c ≤ 0 + k → 0 < a + k
      there a b c k is less more = omega arith
