-- Rewriting changes no number.
use Rattle.std.proofs.Common.{◌≡◌, ℕ, ◌+◌, refl, ap, ◌∙◌, arith}
use Rattle.canvas_task.specs.Apply.{Behaviour}
use Rattle.canvas_semantics.specs.Tree.{ends_in_group, Tree, one, chain, group, chord, Trees, no_trees, and_tree, IsFull, AreFull, count, count_all, count_groups, count_all_groups, number, number_all, numbered}
use Rattle.canvas_semantics.specs.Evaluation.{Flow, eval, ends}
use Rattle.canvas_semantics.specs.SameMeaning.{IsSame}
use Rattle.canvas_semantics.specs.NormalLine.{onto, all_onto, normal_all, normal}
use Rattle.canvas_semantics.specs.Groups.{groups_of}
use Rattle.canvas_semantics.proofs.GroupLemmas.{same_groups}
use Rattle.canvas_semantics.proofs.NormalEnds.{in_group_onto}
use Rattle.canvas_semantics.proofs.NormalLaw.{normal_keeps, normal_keeps_ends}

-- ---- counts

mutual
  pub count_onto : (t : Tree) (after : Trees) → count_all (onto t after) ≡ count t + count_all after
  count_onto (one t) after = refl
  count_onto (chain ts) after = count_all_onto ts after
  count_onto (group g ms) no_trees = omega (arith, count_normal ms)
  count_onto (group g ms) (and_tree u us) = omega (arith, count_normal ms)
  count_onto (chord g h b) after = omega (arith, count_normal h, count_onto b after)

  count_all_onto : (ts after : Trees) → count_all (all_onto ts after) ≡ count_all ts + count_all after
  count_all_onto no_trees after = omega arith
  count_all_onto (and_tree t ts) after = omega (arith, count_onto t (all_onto ts after), count_all_onto ts after)

  pub count_normal : (ms : Trees) → count_all (normal_all ms) ≡ count_all ms
  count_normal no_trees = refl
  count_normal (and_tree t ts) = omega (arith, count_onto t no_trees, count_normal ts)

mutual
  pub groups_onto : (t : Tree) (after : Trees) → count_all_groups (onto t after) ≡ count_groups t + count_all_groups after
  groups_onto (one t) after = refl
  groups_onto (chain ts) after = groups_all_onto ts after
  groups_onto (group g ms) no_trees = omega (arith, groups_normal ms)
  groups_onto (group g ms) (and_tree u us) = omega (arith, groups_normal ms)
  groups_onto (chord g h b) after = omega (arith, groups_normal h, groups_onto b after)

  groups_all_onto : (ts after : Trees) → count_all_groups (all_onto ts after) ≡ count_all_groups ts + count_all_groups after
  groups_all_onto no_trees after = omega arith
  groups_all_onto (and_tree t ts) after = omega (arith, groups_onto t (all_onto ts after), groups_all_onto ts after)

  pub groups_normal : (ms : Trees) → count_all_groups (normal_all ms) ≡ count_all_groups ms
  groups_normal no_trees = refl
  groups_normal (and_tree t ts) = omega (arith, groups_onto t no_trees, groups_normal ts)

pub count_normal_tree : (t : Tree) → count (normal t) ≡ count t
count_normal_tree t = omega (arith, count_onto t no_trees)

pub groups_normal_tree : (t : Tree) → count_groups (normal t) ≡ count_groups t
groups_normal_tree t = omega (arith, groups_onto t no_trees)

-- ---- numbers

pub at : (k k' g g' : ℕ) (ts : Trees) → k ≡ k' → g ≡ g' → number_all k g ts ≡ number_all k' g' ts
at k k' g g' ts e f = ap (λ n. number_all n g ts) e ∙ ap (λ n. number_all k' n ts) f

mutual
  pub number_onto : (t : Tree) (after : Trees) (k g : ℕ)
      → number_all k g (onto t after) ≡ onto (number k g t) (number_all (k + count t) (g + count_groups t) after)
  number_onto (one t) after k g = refl
  number_onto (chain ts) after k g = number_all_onto ts after k g
  number_onto (group _ ms) no_trees k g = ap (λ nms. and_tree (group g nms) no_trees) (number_normal ms k (g + 1))
  number_onto (group _ ms) (and_tree u us) k g =
      ap (λ nms. and_tree (chord g nms
      (chain (number_all (k + count_all (normal_all ms)) (g + 1 + count_all_groups (normal_all ms)) (and_tree u us)))) no_trees)
      (number_normal ms k (g + 1))
      ∙ ap (λ rest. and_tree (chord g (normal_all (number_all k (g + 1) ms)) (chain rest)) no_trees)
      (at _ _ _ _ (and_tree u us) (ap (λ n. k + n) (count_normal ms)) (omega (arith, groups_normal ms)))
  number_onto (chord _ h b) after k g =
      ap (λ nms. and_tree (chord g nms (chain (number_all (k + count_all (normal_all h)) (g + 1 + count_all_groups (normal_all h)) (onto b after)))) no_trees)
      (number_normal h k (g + 1))
      ∙ ap (λ rest. and_tree (chord g (normal_all (number_all k (g + 1) h)) (chain rest)) no_trees)
      (at _ _ _ _ (onto b after) (ap (λ n. k + n) (count_normal h)) (ap (λ n. g + 1 + n) (groups_normal h))
      ∙ number_onto b after (k + count_all h) (g + 1 + count_all_groups h)
      ∙ ap (onto (number (k + count_all h) (g + 1 + count_all_groups h) b)) (at _ _ _ _ after (omega arith) (omega arith)))

  number_all_onto : (ts after : Trees) (k g : ℕ)
      → number_all k g (all_onto ts after) ≡ all_onto (number_all k g ts) (number_all (k + count_all ts) (g + count_all_groups ts) after)
  number_all_onto no_trees after k g = at _ _ _ _ after (omega arith) (omega arith)
  number_all_onto (and_tree t ts) after k g =
      number_onto t (all_onto ts after) k g
      ∙ ap (onto (number k g t)) (number_all_onto ts after (k + count t) (g + count_groups t)
      ∙ ap (all_onto (number_all (k + count t) (g + count_groups t) ts)) (at _ _ _ _ after (omega arith) (omega arith)))

  pub number_normal : (ms : Trees) (k g : ℕ) → number_all k g (normal_all ms) ≡ normal_all (number_all k g ms)
  number_normal no_trees k g = refl
  number_normal (and_tree t ts) k g =
      ap (λ first. and_tree (chain first) (number_all (k + count_all (onto t no_trees)) (g + count_all_groups (onto t no_trees)) (normal_all ts)))
      (number_onto t no_trees k g)
      ∙ ap (λ rest. and_tree (chain (onto (number k g t) no_trees)) rest)
      (at _ _ _ _ (normal_all ts) (omega (arith, count_onto t no_trees)) (omega (arith, groups_onto t no_trees))
      ∙ number_normal ts (k + count t) (g + count_groups t))

mutual
  pub full_number : (t : Tree) (k g : ℕ) → IsFull t → IsFull (number k g t)
  full_number (one t) k g h = tt
  full_number (chain no_trees) k g h = h
  full_number (chain (and_tree t ts)) k g h = (full_number t k g h.0, full_numbers ts _ _ h.1)
  full_number (group _ ms) k g h = full_numbers ms _ _ h
  full_number (chord _ ms b) k g h = (full_numbers ms _ _ h.0, full_number b _ _ h.1)

  full_numbers : (ts : Trees) (k g : ℕ) → AreFull ts → AreFull (number_all k g ts)
  full_numbers no_trees k g h = tt
  full_numbers (and_tree t ts) k g h = (full_number t k g h.0, full_numbers ts _ _ h.1)

pub numbered_normal : (t : Tree) → numbered (normal t) ≡ normal (numbered t)
numbered_normal t = ap chain (number_onto t no_trees 1 1)

module _ (behaviour : Behaviour) where
  -- for every flow the normal line, numbered by itself, means what the canvas means, and has the same ends
  pub law : (t : Tree) (x : Flow) → IsFull t → eval behaviour (numbered (normal t)) x ≡ eval behaviour (numbered t) x
  law t x h = ap (λ u. eval behaviour u x) (numbered_normal t) ∙ normal_keeps behaviour (numbered t) x (full_number t 1 1 h)

pub law_ends : (t : Tree) → IsFull t → ends (numbered (normal t)) ≡ ends (numbered t)
law_ends t h = ap ends (numbered_normal t) ∙ normal_keeps_ends (numbered t) (full_number t 1 1 h)

pub same : (t : Tree) → IsFull t → IsSame (normal t) t
same t h = record {
  means = λ behaviour x. law behaviour t x h;
  ends_alike = law_ends t h;
  in_group_alike = ap ends_in_group (numbered_normal t) ∙ in_group_onto (numbered t) no_trees (full_number t 1 1 h);
  groups_alike = ap groups_of (numbered_normal t) ∙ same_groups (numbered t) (full_number t 1 1 h);
}
