-- The ends of a line, before and after rewriting.
use Rattle.std.proofs.Common.{◌≡◌, Bool, false, ◌||◌, refl, ◌∙◌}
use Rattle.canvas_semantics.specs.Bounds.{nests_group, some_nests_group, some_ends_in_group}
use Rattle.canvas_semantics.specs.NormalLine.{onto, all_onto, normal}
use Rattle.canvas_semantics.specs.Tree.{Tree, one, chain, group, chord, Trees, no_trees, and_tree, IsFull, AreFull, ends_in_group, last_in_group}

abbrev in_group_after : Trees → Bool → Bool
in_group_after no_trees b = b
in_group_after (and_tree t ts) b = last_in_group (and_tree t ts)

found_in_group : (t : Tree) (after : Trees) (b : Bool) → IsFull t → in_group_after (onto t after) b ≡ last_in_group (onto t after)
found_in_group (one t) after b h = refl
found_in_group (chain no_trees) after b h = absurd h
found_in_group (chain (and_tree t ts)) after b h = found_in_group t (all_onto ts after) b h.0
found_in_group (group g ms) no_trees b h = refl
found_in_group (group g ms) (and_tree u us) b h = refl
found_in_group (chord g ms c) after b h = refl

mutual
  pub in_group_onto : (t : Tree) (after : Trees) → IsFull t → last_in_group (onto t after) ≡ in_group_after after (ends_in_group t)
  in_group_onto (one t) no_trees h = refl
  in_group_onto (one t) (and_tree u us) h = refl
  in_group_onto (chain ts) after h = in_group_all ts after h
  in_group_onto (group g ms) no_trees h = refl
  in_group_onto (group g ms) (and_tree u us) h = refl
  in_group_onto (chord g ms b) after h = in_group_onto b after h.1

  in_group_all : (ts after : Trees) → IsFull (chain ts) → last_in_group (all_onto ts after) ≡ in_group_after after (last_in_group ts)
  in_group_all no_trees after h = absurd h
  in_group_all (and_tree t no_trees) after h = in_group_onto t after h.0
  in_group_all (and_tree t (and_tree u us)) after h =
      in_group_onto t (all_onto (and_tree u us) after) h.0 ∙ found_in_group u (all_onto us after) _ h.1.0 ∙ in_group_all (and_tree u us) after h.1

-- whether the normal line of a member ends in a group
abbrev some_line_in_group : Trees → Bool
some_line_in_group no_trees = false
some_line_in_group (and_tree t ts) = ends_in_group (normal t) || some_line_in_group ts

-- whether that is so for a member of any group or header in the canvas
abbrev mutual
  pub nests_in_lines : Tree → Bool
  nests_in_lines (one t) = false
  nests_in_lines (chain ts) = some_nests_in_lines ts
  nests_in_lines (group g ms) = some_line_in_group ms || some_nests_in_lines ms
  nests_in_lines (chord g h b) = some_line_in_group h || some_nests_in_lines h || nests_in_lines b

  pub some_nests_in_lines : Trees → Bool
  some_nests_in_lines no_trees = false
  some_nests_in_lines (and_tree t ts) = nests_in_lines t || some_nests_in_lines ts

members_in_lines : (ms : Trees) → AreFull ms → some_line_in_group ms ≡ some_ends_in_group ms
members_in_lines no_trees h = refl
members_in_lines (and_tree t ts) h = rw (in_group_onto t no_trees h.0, members_in_lines ts h.1) refl

-- If no chain is empty, the refusal of a nested group is that of the members' normal lines.
mutual
  pub nested_in_lines : (t : Tree) → IsFull t → nests_in_lines t ≡ nests_group t
  nested_in_lines (one t) h = refl
  nested_in_lines (chain no_trees) h = absurd h
  nested_in_lines (chain (and_tree t ts)) h = all_nested_in_lines (and_tree t ts) h
  nested_in_lines (group g ms) h = rw (members_in_lines ms h, all_nested_in_lines ms h) refl
  nested_in_lines (chord g ms b) h = rw (members_in_lines ms h.0, all_nested_in_lines ms h.0, nested_in_lines b h.1) refl

  all_nested_in_lines : (ts : Trees) → AreFull ts → some_nests_in_lines ts ≡ some_nests_group ts
  all_nested_in_lines no_trees h = refl
  all_nested_in_lines (and_tree t ts) h = rw (nested_in_lines t h.0, all_nested_in_lines ts h.1) refl
