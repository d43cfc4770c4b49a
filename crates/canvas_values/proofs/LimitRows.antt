-- Which canvases are too deep, too many or nest a group, computed.
use Rattle.std.proofs.Common.{◌≡◌, [], ◌∷◌, Some, None, refl}
use Rattle.canvas_semantics.specs.Tree.{group}
use Rattle.canvas_semantics.proofs.rows.Canvases.{add, trees, pairs_of, with_empty_groups, nested}
use Rattle.canvas_values.specs.LimitRefusals.{tree_fault}
use Rattle.canvas_values.specs.declared.fault.SigFault.TheVariants.{NestedGroup, TooDeep, TooMany}

ten_pairs_are_few : tree_fault (pairs_of 10) ≡ None
ten_pairs_are_few = refl

eleven_pairs_are_too_deep : tree_fault (pairs_of 11) ≡ Some TooDeep
eleven_pairs_are_too_deep = refl

thousand_groups_are_few : tree_fault (with_empty_groups 35) ≡ None
thousand_groups_are_few = refl

more_groups_are_too_many : tree_fault (with_empty_groups 40) ≡ Some TooMany
more_groups_are_too_many = refl

seven_chains_are_few : tree_fault (nested 7) ≡ None
seven_chains_are_few = refl

eight_chains_are_too_deep : tree_fault (nested 8) ≡ Some TooDeep
eight_chains_are_too_deep = refl

group_in_a_group : tree_fault (group 0 (trees (group 0 (trees (add 1 1 ∷ [])) ∷ []))) ≡ Some NestedGroup
group_in_a_group = refl
