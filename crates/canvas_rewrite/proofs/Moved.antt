-- A tree that is taken apart: what is left, and that it becomes lighter.
use Rattle.std.proofs.Common.{◌≡◌, ◌<◌, ◌+◌, ◌++◌, List, [], ◌∷◌, map, arith, refl, ap, ◌∙◌}
use Rattle.std.specs.Prelude.{Box}
use Rattle.std.specs.declared.alloc.Global.{Global}
use Rattle.canvas_semantics.specs.Tree.{Trees}
use Rattle.canvas_semantics.specs.NormalLine.{onto, all_onto}
use Rattle.canvas_values.specs.SignatureView.{view, trees_of}
use Rattle.canvas_values.specs.declared.node.Node.{Node, Chain, Group, Chord}
use Rattle.canvas_values.proofs.Views.{view-Chain, view-Group, view-Chord}
use Rattle.canvas_rewrite.specs.steps.Weight.{weight, weights, weight_of}

weight_is : (ns : List Node) → weight_of ns ≡ weights (trees_of (map view ns))
weight_is [] = refl
weight_is (n ∷ ns) = ap (λ k. 1 + (weight (view n) + k)) (weight_is ns)

pub weight_last : (ns : List Node) (n : Node) → weight_of (ns ++ n ∷ []) ≡ 1 + (weight (view n) + weight_of ns)
weight_last [] n = refl
weight_last (m ∷ ms) n = omega (arith, weight_last ms n)

-- the last of them goes onto the line first
pub onto_last : (ns : List Node) (n : Node) (after : Trees)
    → all_onto (trees_of (map view (ns ++ n ∷ []))) after ≡ all_onto (trees_of (map view ns)) (onto (view n) after)
onto_last [] n after = refl
onto_last (m ∷ ms) n after = ap (onto (view m)) (onto_last ms n after)

-- ---- the signatures nested in a signature are lighter

pub in_chain : (n : Node) (ns xs : List Node) → n ≡ Chain ns → xs ≡ ns → weight_of xs < weight (view n)
in_chain n ns xs is same = omega (arith, ap weight_of same, weight_is ns, ap weight (ap view is ∙ view-Chain ns))

pub in_group : (n : Node) (ns xs : List Node) → n ≡ Group ns → xs ≡ ns → weight_of xs < weight (view n)
in_group n ns xs is same = omega (arith, ap weight_of same, weight_is ns, ap weight (ap view is ∙ view-Group ns))

pub in_header : (n : Node) (ns xs : List Node) (b : Box Node Global) → n ≡ Chord ns b → xs ≡ ns → weight_of xs < weight (view n)
in_header n ns xs b is same = omega (arith, ap weight_of same, weight_is ns, ap weight (ap view is ∙ view-Chord ns b))
