-- The normal line means what the canvas means.
use Rattle.std.proofs.Common.{◌≡◌, ℕ, List, [], ◌++◌, append_assoc, refl, sym, ap, ◌∙◌}
use Rattle.std.proofs.lemmas.List.{append-nil}
use Rattle.canvas_task.specs.Apply.{Behaviour}
use Rattle.canvas_semantics.specs.Tree.{task, Tree, one, chain, group, chord, Trees, no_trees, and_tree, IsFull, AreFull}
use Rattle.canvas_semantics.specs.Evaluation.{Flow, Rows, Meaning, ends, last_ends, all_ends, behind, and_then, group_value, with_states, as_group, eval, eval_chain, member_rows}
use Rattle.canvas_semantics.specs.NormalLine.{onto, all_onto, normal_all, normal}

-- ---- meanings, one after another

behind_none : (m : Meaning) → behind [] m ≡ m
behind_none m = refl

behind_both : (xs ys : Rows) (m : Meaning) → behind xs (behind ys m) ≡ behind (xs ++ ys) m
behind_both xs ys m = ap (λ zs. record { rows = zs; out = m.out }) (sym (append_assoc xs ys m.rows))

pub and_then_both : (m : Meaning) (f g : Flow → Meaning) → and_then (and_then m f) g ≡ and_then m (λ y. and_then (f y) g)
and_then_both m f g = sym (behind_both m.rows (f m.out).rows (g (f m.out).out))

pub and_then_nothing : (m : Meaning) → and_then m (λ y. record { rows = []; out = y }) ≡ m
and_then_nothing m = ap (λ zs. record { rows = zs; out = m.out }) (append-nil m.rows)

-- ---- ends

-- the ends of a line's further elements, or those before where there are none
abbrev ends_after : Trees → List ℕ → List ℕ
ends_after no_trees es = es
ends_after (and_tree t ts) es = last_ends (and_tree t ts)

found : (t : Tree) (after : Trees) (es : List ℕ) → IsFull t → ends_after (onto t after) es ≡ last_ends (onto t after)
found (one t) after es h = refl
found (chain no_trees) after es h = absurd h
found (chain (and_tree t ts)) after es h = found t (all_onto ts after) es h.0
found (group g ms) no_trees es h = refl
found (group g ms) (and_tree u us) es h = refl
found (chord g ms b) after es h = refl

mutual
  ends_onto : (t : Tree) (after : Trees) → IsFull t → last_ends (onto t after) ≡ ends_after after (ends t)
  ends_onto (one (task k call ls es)) no_trees h = refl
  ends_onto (one (task k call ls es)) (and_tree u us) h = refl
  ends_onto (chain ts) after h = ends_all ts after h
  ends_onto (group g ms) no_trees h = ends_members ms h
  ends_onto (group g ms) (and_tree u us) h = refl
  ends_onto (chord g ms b) after h = ends_onto b after h.1

  ends_all : (ts after : Trees) → IsFull (chain ts) → last_ends (all_onto ts after) ≡ ends_after after (last_ends ts)
  ends_all no_trees after h = absurd h
  ends_all (and_tree t no_trees) after h = ends_onto t after h.0
  ends_all (and_tree t (and_tree u us)) after h =
      ends_onto t (all_onto (and_tree u us) after) h.0 ∙ found u (all_onto us after) _ h.1.0 ∙ ends_all (and_tree u us) after h.1

  pub ends_members : (ms : Trees) → AreFull ms → all_ends (normal_all ms) ≡ all_ends ms
  ends_members no_trees h = refl
  ends_members (and_tree t ts) h = ap (λ es. es ++ all_ends (normal_all ts)) (ends_onto t no_trees h.0) ∙ ap (λ es. ends t ++ es) (ends_members ts h.1)

-- ---- the law

module _ (behaviour : Behaviour) where
  -- a group reads only its members' ends and rows
  group_same : (ms : Trees) (x : Flow) → all_ends (normal_all ms) ≡ all_ends ms → member_rows behaviour (normal_all ms) x ≡ member_rows behaviour ms x
      → as_group x (normal_all ms) (member_rows behaviour (normal_all ms) x) ≡ as_group x ms (member_rows behaviour ms x)
  group_same ms x same_ends same_rows =
      ap (λ rows. record { rows = rows; out = group_value x (with_states rows (all_ends (normal_all ms))) }) same_rows
      ∙ ap (λ es. record { rows = member_rows behaviour ms x; out = group_value x (with_states (member_rows behaviour ms x) es) }) same_ends

  mutual
    pub onto_keeps : (t : Tree) (after : Trees) (x : Flow) → IsFull t
        → eval_chain behaviour (onto t after) x ≡ and_then (eval behaviour t x) (eval_chain behaviour after)
    onto_keeps (one t) after x h = refl
    onto_keeps (chain no_trees) after x h = absurd h
    onto_keeps (chain (and_tree t ts)) after x h = all_keeps (and_tree t ts) after x h
    onto_keeps (group g ms) no_trees x h = ap (λ m. and_then m (eval_chain behaviour no_trees)) (group_same ms x (ends_members ms h) (members_keep ms x h))
    onto_keeps (group g ms) (and_tree u us) x h =
        and_then_nothing _ ∙ ap (λ m. and_then m (eval_chain behaviour (and_tree u us))) (group_same ms x (ends_members ms h) (members_keep ms x h))
    onto_keeps (chord g ms b) after x h =
        let header = as_group x ms (member_rows behaviour ms x) in
        and_then_nothing _ ∙ ap (λ m. and_then m (eval_chain behaviour (onto b after))) (group_same ms x (ends_members ms h.0) (members_keep ms x h.0))
        ∙ ap (λ m. behind header.rows m) (onto_keeps b after header.out h.1) ∙ sym (and_then_both header (eval behaviour b) (eval_chain behaviour after))

    all_keeps : (ts after : Trees) (x : Flow) → AreFull ts
        → eval_chain behaviour (all_onto ts after) x ≡ and_then (eval_chain behaviour ts x) (eval_chain behaviour after)
    all_keeps no_trees after x h = refl
    all_keeps (and_tree t ts) after x h =
        onto_keeps t (all_onto ts after) x h.0 ∙ ap (λ m. behind (eval behaviour t x).rows m) (all_keeps ts after (eval behaviour t x).out h.1)
        ∙ sym (and_then_both (eval behaviour t x) (eval_chain behaviour ts) (eval_chain behaviour after))

    members_keep : (ms : Trees) (x : Flow) → AreFull ms → member_rows behaviour (normal_all ms) x ≡ member_rows behaviour ms x
    members_keep no_trees x h = refl
    members_keep (and_tree t ts) x h = ap (λ m. m.rows ++ member_rows behaviour (normal_all ts) x) (onto_keeps t no_trees x h.0 ∙ and_then_nothing _)
        ∙ ap (λ rows. (eval behaviour t x).rows ++ rows) (members_keep ts x h.1)

  pub normal_keeps : (t : Tree) (x : Flow) → IsFull t → eval behaviour (normal t) x ≡ eval behaviour t x
  normal_keeps t x h = onto_keeps t no_trees x h ∙ and_then_nothing _

pub normal_keeps_ends : (t : Tree) → IsFull t → ends (normal t) ≡ ends t
normal_keeps_ends t h = ends_onto t no_trees h
