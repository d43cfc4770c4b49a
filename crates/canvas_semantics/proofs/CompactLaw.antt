-- A line as a signature means what the line means.
use Rattle.std.proofs.Common.{◌≡◌, ◌∙◌, ℕ, ◌+◌, ◌++◌, [], append-nil, refl, sym, ap, arith}
use Rattle.canvas_task.specs.Apply.{Behaviour}
use Rattle.canvas_semantics.specs.Tree.{one, group, chord, Trees, no_trees, and_tree, ends_in_group, last_in_group, count, count_all, count_groups, count_all_groups, number, number_all, numbered, number_task}
use Rattle.canvas_semantics.specs.Compact.{element_or_chain, compact, compact_elements, compact_members}
use Rattle.canvas_semantics.specs.Evaluation.{Flow, ends, last_ends, all_ends, behind, and_then, group_value, with_states, as_group, eval, eval_chain, member_rows}
use Rattle.canvas_semantics.specs.Groups.{groups_of, all_groups_of}
use Rattle.canvas_semantics.specs.Line.{Line, stop, step, group_end, chord_end, Lines, no_lines, and_line, elements_of, members_of, tree_of, number_line, number_lines, count_line, count_lines, line_groups, lines_groups}
use Rattle.canvas_semantics.specs.SameMeaning.{IsSame}
use Rattle.canvas_semantics.proofs.GroupLemmas.{headed}
use Rattle.canvas_semantics.proofs.NormalLaw.{and_then_nothing}
use Rattle.canvas_semantics.proofs.NumberLemmas.{at}
use Rattle.canvas_semantics.proofs.Numbered.{tree_numbered}

-- ---- one element, or a chain

module _ (behaviour : Behaviour) where
  whole_means : (ts : Trees) (x : Flow) → eval behaviour (element_or_chain ts) x ≡ eval_chain behaviour ts x
  whole_means no_trees x = refl
  whole_means (and_tree t no_trees) x = sym (and_then_nothing (eval behaviour t x))
  whole_means (and_tree t (and_tree u us)) x = refl

whole_ends : (ts : Trees) → ends (element_or_chain ts) ≡ last_ends ts
whole_ends no_trees = refl
whole_ends (and_tree t no_trees) = refl
whole_ends (and_tree t (and_tree u us)) = refl

whole_group : (ts : Trees) → ends_in_group (element_or_chain ts) ≡ last_in_group ts
whole_group no_trees = refl
whole_group (and_tree t no_trees) = refl
whole_group (and_tree t (and_tree u us)) = refl

whole_count : (ts : Trees) → count (element_or_chain ts) ≡ count_all ts
whole_count no_trees = refl
whole_count (and_tree t no_trees) = omega arith
whole_count (and_tree t (and_tree u us)) = refl

whole_groups : (ts : Trees) → count_groups (element_or_chain ts) ≡ count_all_groups ts
whole_groups no_trees = refl
whole_groups (and_tree t no_trees) = omega arith
whole_groups (and_tree t (and_tree u us)) = refl

whole_number : (ts : Trees) (k g : ℕ) → number k g (element_or_chain ts) ≡ element_or_chain (number_all k g ts)
whole_number no_trees k g = refl
whole_number (and_tree t no_trees) k g = refl
whole_number (and_tree t (and_tree u us)) k g = refl

-- ---- ends

mutual
  ends_same : (l : Line) → last_ends (compact_elements l) ≡ last_ends (elements_of l)
  ends_same stop = refl
  ends_same (step t stop) = refl
  ends_same (step t (step u l)) = ends_same (step u l)
  ends_same (step t (group_end g ms)) = all_ends_same ms
  ends_same (step t (chord_end g ms b)) = whole_ends (compact_elements b) ∙ ends_same b
  ends_same (group_end g ms) = all_ends_same ms
  ends_same (chord_end g ms b) = whole_ends (compact_elements b) ∙ ends_same b

  all_ends_same : (ms : Lines) → all_ends (compact_members ms) ≡ all_ends (members_of ms)
  all_ends_same no_lines = refl
  all_ends_same (and_line m ms) = λ i. (whole_ends (compact_elements m) ∙ ends_same m) i ++ all_ends_same ms i

group_same : (l : Line) → last_in_group (compact_elements l) ≡ last_in_group (elements_of l)
group_same stop = refl
group_same (step t stop) = refl
group_same (step t (step u l)) = group_same (step u l)
group_same (step t (group_end g ms)) = refl
group_same (step t (chord_end g ms b)) = whole_group (compact_elements b) ∙ group_same b
group_same (group_end g ms) = refl
group_same (chord_end g ms b) = whole_group (compact_elements b) ∙ group_same b

-- ---- groups and chords

whole_groups_of : (ts : Trees) → groups_of (element_or_chain ts) ≡ all_groups_of ts
whole_groups_of no_trees = refl
whole_groups_of (and_tree t no_trees) = sym (append-nil (groups_of t))
whole_groups_of (and_tree t (and_tree u us)) = refl

mutual
  groups_kept : (l : Line) → all_groups_of (compact_elements l) ≡ all_groups_of (elements_of l)
  groups_kept stop = refl
  groups_kept (step t l) = groups_kept l
  groups_kept (group_end g ms) = λ i. headed g (all_ends_same ms i) (all_groups_kept ms i) []
  groups_kept (chord_end g ms b) =
      λ i. headed g (all_ends_same ms i) (all_groups_kept ms i) ((whole_groups_of (compact_elements b) ∙ groups_kept b) i) ++ []

  all_groups_kept : (ms : Lines) → all_groups_of (compact_members ms) ≡ all_groups_of (members_of ms)
  all_groups_kept no_lines = refl
  all_groups_kept (and_line m ms) = λ i. (whole_groups_of (compact_elements m) ∙ groups_kept m) i ++ all_groups_kept ms i

-- ---- evaluation

module _ (behaviour : Behaviour) where
  -- a group reads only its members' ends and rows
  as_group_same : (ms : Lines) (x : Flow) → member_rows behaviour (compact_members ms) x ≡ member_rows behaviour (members_of ms) x
      → as_group x (compact_members ms) (member_rows behaviour (compact_members ms) x) ≡ as_group x (members_of ms) (member_rows behaviour (members_of ms) x)
  as_group_same ms x rows_are =
      ap (λ rows. record { rows = rows; out = group_value x (with_states rows (all_ends (compact_members ms))) }) rows_are
      ∙ ap (λ es. record { rows = member_rows behaviour (members_of ms) x; out = group_value x (with_states (member_rows behaviour (members_of ms) x) es) })
      (all_ends_same ms)

  mutual
    means : (l : Line) (x : Flow) → eval_chain behaviour (compact_elements l) x ≡ eval_chain behaviour (elements_of l) x
    means stop x = refl
    means (step t l) x = ap (λ m. behind (eval behaviour (one t) x).rows m) (means l (eval behaviour (one t) x).out)
    means (group_end g ms) x = ap (λ m. and_then m (eval_chain behaviour no_trees)) (as_group_same ms x (rows_same ms x))
    means (chord_end g ms b) x =
        let header = as_group x (members_of ms) (member_rows behaviour (members_of ms) x) in
        ap (λ m. and_then (and_then m (eval behaviour (element_or_chain (compact_elements b)))) (eval_chain behaviour no_trees))
        (as_group_same ms x (rows_same ms x))
        ∙ ap (λ m. and_then (behind header.rows m) (eval_chain behaviour no_trees)) (whole_means behaviour (compact_elements b) header.out ∙ means b header.out)

    rows_same : (ms : Lines) (x : Flow) → member_rows behaviour (compact_members ms) x ≡ member_rows behaviour (members_of ms) x
    rows_same no_lines x = refl
    rows_same (and_line m ms) x = λ i. ((whole_means behaviour (compact_elements m) x ∙ means m x) i).rows ++ rows_same ms x i

-- ---- numbers

mutual
  count_compact : (l : Line) → count_all (compact_elements l) ≡ count_line l
  count_compact stop = refl
  count_compact (step t l) = omega (arith, count_compact l)
  count_compact (group_end g ms) = omega (arith, count_members ms)
  count_compact (chord_end g ms b) = omega (arith, count_members ms, whole_count (compact_elements b), count_compact b)

  count_members : (ms : Lines) → count_all (compact_members ms) ≡ count_lines ms
  count_members no_lines = refl
  count_members (and_line m ms) = omega (arith, whole_count (compact_elements m), count_compact m, count_members ms)

mutual
  groups_compact : (l : Line) → count_all_groups (compact_elements l) ≡ line_groups l
  groups_compact stop = refl
  groups_compact (step t l) = omega (arith, groups_compact l)
  groups_compact (group_end g ms) = omega (arith, groups_members ms)
  groups_compact (chord_end g ms b) = omega (arith, groups_members ms, whole_groups (compact_elements b), groups_compact b)

  groups_members : (ms : Lines) → count_all_groups (compact_members ms) ≡ lines_groups ms
  groups_members no_lines = refl
  groups_members (and_line m ms) = omega (arith, whole_groups (compact_elements m), groups_compact m, groups_members ms)

mutual
  number_compact : (l : Line) (k g : ℕ) → number_all k g (compact_elements l) ≡ compact_elements (number_line k g l)
  number_compact stop k g = refl
  number_compact (step t l) k g =
      ap (and_tree (one (number_task k t))) (at _ _ _ _ (compact_elements l) refl (omega arith) ∙ number_compact l _ g)
  number_compact (group_end _ ms) k g = ap (λ x. and_tree (group g x) no_trees) (number_members ms k (g + 1))
  number_compact (chord_end _ ms b) k g =
      (λ i. and_tree (chord g (number_members ms k (g + 1) i)
      (number (k + count_members ms i) (g + 1 + groups_members ms i) (element_or_chain (compact_elements b)))) no_trees)
      ∙ ap (λ x. and_tree (chord g (compact_members (number_lines k (g + 1) ms)) x) no_trees)
      (whole_number (compact_elements b) _ _ ∙ ap element_or_chain (number_compact b (k + count_lines ms) (g + 1 + lines_groups ms)))

  number_members : (ms : Lines) (k g : ℕ) → number_all k g (compact_members ms) ≡ compact_members (number_lines k g ms)
  number_members no_lines k g = refl
  number_members (and_line m ms) k g =
      (λ i. and_tree (whole_number (compact_elements m) k g i)
      (number_all (k + (whole_count (compact_elements m) ∙ count_compact m) i) (g + (whole_groups (compact_elements m) ∙ groups_compact m) i)
      (compact_members ms)))
      ∙ (λ i. and_tree (element_or_chain (number_compact m k g i)) (number_members ms (k + count_line m) (g + line_groups m) i))

-- ---- the law

pub compact_same : (l : Line) → IsSame (compact l) (tree_of l)
compact_same l =
    let n = number_line 1 1 l in
    let numbers : numbered (compact l) ≡ compact n = whole_number (compact_elements l) 1 1 ∙ ap element_or_chain (number_compact l 1 1) in
    let line : tree_of n ≡ numbered (tree_of l) = tree_numbered l in
    record {
      means = λ behaviour x. ap (λ t. eval behaviour t x) numbers ∙ whole_means behaviour (compact_elements n) x ∙ means behaviour n x
          ∙ ap (λ t. eval behaviour t x) line;
      ends_alike = ap ends numbers ∙ whole_ends (compact_elements n) ∙ ends_same n ∙ ap ends line;
      in_group_alike = ap ends_in_group numbers ∙ whole_group (compact_elements n) ∙ group_same n ∙ ap ends_in_group line;
      groups_alike = ap groups_of numbers ∙ whole_groups_of (compact_elements n) ∙ groups_kept n ∙ ap groups_of line;
    }
