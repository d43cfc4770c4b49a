-- The limits of a canvas's depth and size, and the places where a group is refused. They are this
-- project's own: the Canvas chapter of Celery's user guide has none.
use Rattle.std.specs.Prelude.{ℕ, Bool, false, ◌||◌, nat_lt}
use Rattle.canvas_semantics.specs.Tree.{Tree, one, chain, group, chord, Trees, no_trees, and_tree, count, count_groups, ends_in_group}
use Rattle.canvas_semantics.specs.Nesting.{nesting}
use Rattle.canvas_semantics.specs.NormalLine.{normal}
use Rattle.canvas_semantics.specs.Reach.{reach}

-- the greatest depth to which signatures may be nested in a canvas
abbrev pub most_nesting : ℕ
most_nesting = 8

-- the greatest depth to which signatures may be nested in a message
abbrev pub most_reach : ℕ
most_reach = 32

abbrev pub most_tasks : ℕ
most_tasks = 1024

abbrev pub most_groups : ℕ
most_groups = 1024

-- Whether a member of a group or of a header ends in a group, anywhere in the canvas as written. It
-- holds equally for the members' normal lines, since rewriting keeps the ends of a line if no chain
-- is empty (`nested_in_lines` of proofs/NormalEnds); an empty chain is refused first. So each
-- member of a canvas ends in one task.
abbrev mutual
  pub nests_group : Tree → Bool
  nests_group (one t) = false
  nests_group (chain ts) = some_nests_group ts
  nests_group (group g ms) = some_ends_in_group ms || some_nests_group ms
  nests_group (chord g h b) = some_ends_in_group h || some_nests_group h || nests_group b

  pub some_nests_group : Trees → Bool
  some_nests_group no_trees = false
  some_nests_group (and_tree t ts) = nests_group t || some_nests_group ts

  pub some_ends_in_group : Trees → Bool
  some_ends_in_group no_trees = false
  some_ends_in_group (and_tree t ts) = ends_in_group t || some_ends_in_group ts

abbrev pub is_too_deep : Tree → Bool
is_too_deep c = nat_lt most_nesting (nesting c) || nat_lt most_reach (reach 0 (normal c))

abbrev pub is_too_many : Tree → Bool
is_too_many c = nat_lt most_tasks (count c) || nat_lt most_groups (count_groups c)
