-- The number of signatures in a tree, which bounds a walk that takes it apart.
use Rattle.std.specs.Prelude.{ℕ, ◌+◌, List, [], ◌∷◌}
use Rattle.canvas_semantics.specs.Tree.{Tree, one, chain, group, chord, Trees, no_trees, and_tree}
use Rattle.canvas_values.specs.declared.node.Node.{Node}
use Rattle.canvas_values.specs.SignatureView.{view}

abbrev mutual
  pub weight : Tree → ℕ
  weight (one t) = 1
  weight (chain ts) = 1 + weights ts
  weight (group g ms) = 1 + weights ms
  weight (chord g h b) = 1 + (weights h + weight b)

  pub weights : Trees → ℕ
  weights no_trees = 0
  weights (and_tree t ts) = 1 + (weight t + weights ts)

abbrev pub weight_of : List Node → ℕ
weight_of [] = 0
weight_of (n ∷ ns) = 1 + (weight (view n) + weight_of ns)
