-- Lines and their elements.
use Rattle.std.proofs.Common.{◌≡◌, List, [], ◌∷◌, map, Option, Some, None, Box, Global, rules, Result, IfOk, refl, ap, sym, subst, ◌∙◌}
use Rattle.std.specs.Option.{option_map}
use Rattle.canvas_semantics.specs.Tree.{Tree, chain, group, chord, Trees, no_trees, and_tree}
use Rattle.canvas_values.specs.SignatureView.{view, trees_of}
use Rattle.canvas_values.specs.declared.node.Node.{Node, Group, Chord}
use Rattle.canvas_values.proofs.Views.{view-Group, view-Chord}
use Rattle.canvas_semantics.specs.NormalLine.{onto, group_onto, normal_all}
use Rattle.canvas_rewrite.specs.LineView.{elements, chains, group_or_chord}
use Rattle.canvas_rewrite.specs.declared.line.Line as line
use Rattle.canvas_rewrite.specs.declared.line.Line.{Line, out-Line, roll-Line}
use Rattle.canvas_rewrite.specs.steps.Growing.{growing}
use Rattle.canvas_rewrite.specs.declared.growing.Growing.{Growing}
use Rattle.canvas_rewrite.specs.declared.line.LineEnd.{LineEnd, out-LineEnd, roll-LineEnd}
use Rattle.canvas_semantics.specs.Line as Frozen
use Rattle.canvas_semantics.specs.Line.{stop, elements_of, members_of}
use Rattle.canvas_rewrite.specs.FrozenView.{end_of, line_of, lines_of}
use Rattle.canvas_rewrite.proofs.FrozenViews.{end_none, end_some}
use Rattle.std.specs.declared.alloc.AllocError.{AllocError}

pub normal_chains : (ns : List Node) → chains (map (λ n. onto (view n) no_trees) ns) ≡ normal_all (trees_of (map view ns))
normal_chains [] = refl
normal_chains (n ∷ ns) = ap (and_tree (chain (onto (view n) no_trees))) (normal_chains ns)

-- ---- when a line is empty

pub end_elements : (e : LineEnd) (o : Option Line) → (out-LineEnd e).body ≡ o → (t : Tree) × (elements_of (end_of e) ≡ and_tree t no_trees)
end_elements e None h = (_, ap elements_of (end_none e h))
end_elements e (Some b) h = (_, ap elements_of (end_some e b h))

pub same_elements : (r : Result Growing AllocError) (a b : Trees) → a ≡ b → IfOk r (λ l. growing l ≡ a) → IfOk r (λ l. growing l ≡ b)
same_elements r a b e h = let P : Trees → Type 0 = λ ts. IfOk r (λ l. growing l ≡ ts) in subst P e h

-- ---- the line of a group or chord, from those of its members

module _ (r : Result Growing AllocError) (n : Node) (after : Trees) (nodes xs : List Node) (ls : List Line) where
  lines_same : xs ≡ nodes → map elements ls ≡ map (λ m. onto (view m) no_trees) xs → chains (map elements ls) ≡ normal_all (trees_of (map view nodes))
  lines_same same e = ap chains e ∙ normal_chains xs ∙ ap (λ ys. normal_all (trees_of (map view ys))) same

  pub group_line : n ≡ Group nodes → xs ≡ nodes → map elements ls ≡ map (λ m. onto (view m) no_trees) xs
      → IfOk r (λ l. growing l ≡ group_onto 0 (chains (map elements ls)) after) → IfOk r (λ l. growing l ≡ onto (view n) after)
  group_line is same e =
      same_elements r _ _ (ap (λ ms. group_onto 0 ms after) (lines_same same e) ∙ sym (ap (λ t. onto t after) (ap view is ∙ view-Group nodes)))

  pub chord_line : (b : Box Node Global) (x : Node) (body : Growing) (following : Line) → n ≡ Chord nodes b → xs ≡ nodes
      → map elements ls ≡ map (λ m. onto (view m) no_trees) xs
      → x ≡ b.value → growing body ≡ onto (view x) after → elements following ≡ growing body
      → IfOk r (λ l. growing l ≡ and_tree (group_or_chord (map elements ls) (Some (elements following))) no_trees)
      → IfOk r (λ l. growing l ≡ onto (view n) after)
  chord_line b x body following is same e there of_body made =
      same_elements r _ _ (ap (λ ms. and_tree (chord 0 ms (chain (elements following))) no_trees) (lines_same same e)
      ∙ ap (λ ts. and_tree (chord 0 (normal_all (trees_of (map view nodes))) (chain ts)) no_trees) (made ∙ of_body ∙ ap (λ y. onto (view y) after) there)
      ∙ sym (ap (λ t. onto t after) (ap view is ∙ view-Chord nodes b)))

-- ---- a line of one group or chord

pub group_ended : (ms : List Line) → end_of (roll-LineEnd (record { members = ms; body = None })) ≡ Frozen.group_end 0 (lines_of (map line_of ms))
group_ended ms = search (rules, line.the_lemmas)

pub chord_ended : (ms : List Line) (b : Line)
    → end_of (roll-LineEnd (record { members = ms; body = Some b })) ≡ Frozen.chord_end 0 (lines_of (map line_of ms)) (line_of b)
chord_ended ms b = search (rules, line.the_lemmas)

members_chains : (ms : List Line) → members_of (lines_of (map line_of ms)) ≡ chains (map elements ms)
members_chains [] = refl
members_chains (m ∷ ms) = ap (and_tree (chain (elements m))) (members_chains ms)

pub end_elements_of : (ms : List Line) (o : Option Line)
    → elements_of (end_of (roll-LineEnd (record { members = ms; body = o }))) ≡ and_tree (group_or_chord (map elements ms) (option_map elements o)) no_trees
end_elements_of ms None = ap elements_of (group_ended ms) ∙ ap (λ x. and_tree (group 0 x) no_trees) (members_chains ms)
end_elements_of ms (Some b) = ap elements_of (chord_ended ms b) ∙ ap (λ x. and_tree (chord 0 x (chain (elements b))) no_trees) (members_chains ms)
