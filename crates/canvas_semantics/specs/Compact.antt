-- A line as a signature: a line of one element is that element, a longer one a chain (Celery user
-- guide, Canvas: chains).
use Rattle.canvas_semantics.specs.Tree.{Tree, one, chain, group, chord, Trees, no_trees, and_tree}
use Rattle.canvas_semantics.specs.Line.{Line, stop, step, group_end, chord_end, Lines, no_lines, and_line}

abbrev pub element_or_chain : Trees → Tree
element_or_chain (and_tree t no_trees) = t
element_or_chain ts = chain ts

abbrev mutual
  pub compact_elements : Line → Trees
  compact_elements stop = no_trees
  compact_elements (step t l) = and_tree (one t) (compact_elements l)
  compact_elements (group_end g ms) = and_tree (group g (compact_members ms)) no_trees
  compact_elements (chord_end g ms b) =
      and_tree (chord g (compact_members ms) (element_or_chain (compact_elements b))) no_trees

  pub compact_members : Lines → Trees
  compact_members no_lines = no_trees
  compact_members (and_line m ms) =
      and_tree (element_or_chain (compact_elements m)) (compact_members ms)

abbrev pub compact : Line → Tree
compact l = element_or_chain (compact_elements l)
