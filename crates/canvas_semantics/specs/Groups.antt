-- The groups and chords of a canvas, each with its members' ends (Celery user guide, Canvas: groups
-- and chords).
use Rattle.std.specs.Prelude.{ℕ, List, [], ◌∷◌, ◌++◌}
use Rattle.canvas_semantics.specs.Evaluation.{all_ends}
use Rattle.canvas_semantics.specs.Tree.{Tree, one, chain, group, chord, Trees, no_trees, and_tree}

-- the groups and chords in file order: a group or chord before those inside it, a header before the
-- body
abbrev mutual
  pub groups_of : Tree → List (ℕ × List ℕ)
  groups_of (one t) = []
  groups_of (chain ts) = all_groups_of ts
  groups_of (group g ms) = (g, all_ends ms) ∷ all_groups_of ms
  groups_of (chord g h b) = (g, all_ends h) ∷ all_groups_of h ++ groups_of b

  pub all_groups_of : Trees → List (ℕ × List ℕ)
  all_groups_of no_trees = []
  all_groups_of (and_tree t ts) = groups_of t ++ all_groups_of ts
