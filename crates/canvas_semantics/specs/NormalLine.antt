-- The normal line of a canvas: a chain of tasks, then at most one group or chord (Celery user
-- guide, Canvas: a chain in a chain is part of it, and a group that another task follows is
-- upgraded to a chord).
use Rattle.std.specs.Prelude.{ℕ}
use Rattle.canvas_semantics.specs.Tree.{Tree, one, chain, group, chord, Trees, no_trees, and_tree}

-- a group whose members are lines; if something follows it, it becomes a chord
abbrev pub group_onto : ℕ → Trees → Trees → Trees
group_onto g members no_trees = and_tree (group g members) no_trees
group_onto g members (and_tree t ts) = and_tree (chord g members (chain (and_tree t ts))) no_trees

-- The elements of the line of an element followed by `after`, which are the elements of a line. A
-- chain is flattened, and what follows a chord is added to its body.
abbrev mutual
  pub onto : Tree → Trees → Trees
  onto (one t) after = and_tree (one t) after
  onto (chain ts) after = all_onto ts after
  onto (group g ms) after = group_onto g (normal_all ms) after
  onto (chord g h b) after = and_tree (chord g (normal_all h) (chain (onto b after))) no_trees

  pub all_onto : Trees → Trees → Trees
  all_onto no_trees after = after
  all_onto (and_tree t ts) after = onto t (all_onto ts after)

  -- members are lines too
  pub normal_all : Trees → Trees
  normal_all no_trees = no_trees
  normal_all (and_tree t ts) = and_tree (chain (onto t no_trees)) (normal_all ts)

abbrev pub normal : Tree → Tree
normal t = chain (onto t no_trees)
