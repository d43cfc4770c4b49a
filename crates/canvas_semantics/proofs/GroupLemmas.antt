-- Rewriting keeps each group and chord, its number and what its members end in.
use Rattle.std.proofs.Common.{◌≡◌, ◌∙◌, ℕ, List, [], ◌∷◌, ◌++◌, append_assoc, append-nil, refl, sym, ap}
use Rattle.canvas_semantics.specs.Tree.{Tree, one, chain, group, chord, Trees, no_trees, and_tree, IsFull, AreFull}
use Rattle.canvas_semantics.specs.Evaluation.{all_ends}
use Rattle.canvas_semantics.specs.Groups.{groups_of, all_groups_of}
use Rattle.canvas_semantics.specs.NormalLine.{onto, all_onto, normal_all, normal}
use Rattle.canvas_semantics.proofs.NormalLaw.{ends_members}

-- a group or chord with its header, before what comes after
abbrev pub headed : ℕ → List ℕ → List (ℕ × List ℕ) → List (ℕ × List ℕ) → List (ℕ × List ℕ)
headed g es inner more = (g, es) ∷ inner ++ more

same_header : (g : ℕ) (ms : Trees) (more : List (ℕ × List ℕ)) → AreFull ms → all_groups_of (normal_all ms) ≡ all_groups_of ms
    → headed g (all_ends (normal_all ms)) (all_groups_of (normal_all ms)) more ≡ headed g (all_ends ms) (all_groups_of ms) more
same_header g ms more h same = ap (λ es. headed g es (all_groups_of (normal_all ms)) more) (ends_members ms h) ∙ ap (λ gs. headed g (all_ends ms) gs more) same

mutual
  groups_of_onto : (t : Tree) (after : Trees) → IsFull t → all_groups_of (onto t after) ≡ groups_of t ++ all_groups_of after
  groups_of_onto (one t) after h = refl
  groups_of_onto (chain no_trees) after h = absurd h
  groups_of_onto (chain (and_tree t ts)) after h = groups_of_all (and_tree t ts) after h
  groups_of_onto (group g ms) no_trees h = same_header g ms [] h (groups_of_normal ms h)
  groups_of_onto (group g ms) (and_tree u us) h =
      append-nil (headed g (all_ends (normal_all ms)) (all_groups_of (normal_all ms)) (all_groups_of (and_tree u us)))
      ∙ same_header g ms (all_groups_of (and_tree u us)) h (groups_of_normal ms h)
  groups_of_onto (chord g ms b) after h =
      append-nil (headed g (all_ends (normal_all ms)) (all_groups_of (normal_all ms)) (all_groups_of (onto b after)))
      ∙ same_header g ms (all_groups_of (onto b after)) h.0 (groups_of_normal ms h.0)
      ∙ ap (headed g (all_ends ms) (all_groups_of ms)) (groups_of_onto b after h.1)
      ∙ ap (λ gs. (g, all_ends ms) ∷ gs) (sym (append_assoc (all_groups_of ms) (groups_of b) (all_groups_of after)))

  groups_of_all : (ts after : Trees) → AreFull ts → all_groups_of (all_onto ts after) ≡ all_groups_of ts ++ all_groups_of after
  groups_of_all no_trees after h = refl
  groups_of_all (and_tree t ts) after h =
      groups_of_onto t (all_onto ts after) h.0 ∙ ap (λ gs. groups_of t ++ gs) (groups_of_all ts after h.1)
      ∙ sym (append_assoc (groups_of t) (all_groups_of ts) (all_groups_of after))

  groups_of_normal : (ms : Trees) → AreFull ms → all_groups_of (normal_all ms) ≡ all_groups_of ms
  groups_of_normal no_trees h = refl
  groups_of_normal (and_tree t ts) h =
      ap (λ gs. gs ++ all_groups_of (normal_all ts)) (groups_of_onto t no_trees h.0 ∙ append-nil (groups_of t))
      ∙ ap (λ gs. groups_of t ++ gs) (groups_of_normal ts h.1)

pub same_groups : (t : Tree) → IsFull t → groups_of (normal t) ≡ groups_of t
same_groups t h = groups_of_onto t no_trees h ∙ append-nil (groups_of t)
