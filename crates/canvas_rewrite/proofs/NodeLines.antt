-- A line as a signature, by its parts.
use Rattle.std.proofs.Common.{◌≡◌, ◌≢◌, ◌∙◌, ◌++◌, List, [], ◌∷◌, map, length, Some, None, Box, Global, refl, sym, ap, append-nil}
use Rattle.std.proofs.lemmas.List.{map-append}
use Rattle.canvas_semantics.specs.Tree.{Tree, one, chain, group, chord, no_trees, and_tree}
use Rattle.canvas_values.specs.SignatureView.{view, task_view, trees_of}
use Rattle.canvas_values.specs.declared.node.Node.{Node, Chain, Group, Chord}
use Rattle.canvas_values.specs.declared.task_sig.TaskSig.{TaskSig}
use Rattle.canvas_values.proofs.Views.{view-Chain, view-Group, view-Chord}
use Rattle.canvas_semantics.specs.Compact.{element_or_chain, compact, compact_elements, compact_members}
use Rattle.canvas_semantics.specs.Line as Frozen
use Rattle.canvas_semantics.specs.Line.{stop}
use Rattle.canvas_rewrite.specs.FrozenView.{steps_onto, lines_of, line_of, end_of}
use Rattle.canvas_rewrite.specs.declared.line.Line.{Line, out-Line}
use Rattle.canvas_rewrite.specs.declared.line.LineEnd.{LineEnd, out-LineEnd}
use Rattle.canvas_rewrite.proofs.FrozenViews.{line_none, line_some, end_none, end_some}

longer : (ns : List Node) → length ns ≢ 1 → chain (trees_of (map view ns)) ≡ element_or_chain (trees_of (map view ns))
longer [] h = refl
longer (n ∷ []) h = absurd (h refl)
longer (n ∷ m ∷ ns) h = refl

pub chain_whole : (ns xs : List Node) → xs ≡ ns → length ns ≢ 1 → view (Chain xs) ≡ element_or_chain (trees_of (map view ns))
chain_whole ns xs e h = view-Chain xs ∙ ap (λ ys. chain (trees_of (map view ys))) e ∙ longer ns h

-- ---- a line

front : (ts : List TaskSig) (l : Frozen.Line) (us : List Tree) → compact_elements l ≡ trees_of us
    → compact_elements (steps_onto (map task_view ts) l) ≡ trees_of (map (λ s. one (task_view s)) ts ++ us)
front [] l us e = e
front (t ∷ ts) l us e = ap (and_tree (one (task_view t))) (front ts l us e)

module _ (l : Line) (tasks : List TaskSig) (same : tasks ≡ (out-Line l).tasks) (ns : List Node) (made : map view ns ≡ map (λ s. one (task_view s)) tasks) where
  pub node_none : (out-Line l).tail ≡ None → element_or_chain (trees_of (map view ns)) ≡ compact (line_of l)
  node_none e =
      ap (λ us. element_or_chain (trees_of us)) (made ∙ ap (map (λ s. one (task_view s))) same
      ∙ sym (append-nil (map (λ s. one (task_view s)) (out-Line l).tasks)))
      ∙ ap element_or_chain (sym (front (out-Line l).tasks stop [] refl)) ∙ sym (ap compact (line_none l e))

  pub node_some : (b : Box LineEnd Global) → (out-Line l).tail ≡ Some b → (n : Node) (end : LineEnd) → end ≡ b.value
      → and_tree (view n) no_trees ≡ compact_elements (end_of end)
      → (all : List Node) → all ≡ ns ++ n ∷ [] → element_or_chain (trees_of (map view all)) ≡ compact (line_of l)
  node_some b e n end at of_end all pushed =
      let seen : map view all ≡ map (λ s. one (task_view s)) (out-Line l).tasks ++ view n ∷ [] =
      ap (map view) pushed ∙ map-append view ns (n ∷ []) ∙ ap (λ us. us ++ view n ∷ []) (made ∙ ap (map (λ s. one (task_view s))) same) in
      ap (λ us. element_or_chain (trees_of us)) seen
      ∙ ap element_or_chain (sym (front (out-Line l).tasks (end_of b.value) (view n ∷ []) (sym (of_end ∙ ap (λ x. compact_elements (end_of x)) at))))
      ∙ sym (ap compact (line_some l b e))

-- ---- an end

members_seen : (ls : List Line) → trees_of (map (λ x. compact (line_of x)) ls) ≡ compact_members (lines_of (map line_of ls))
members_seen [] = refl
members_seen (l ∷ ls) = ap (and_tree (compact (line_of l))) (members_seen ls)

module _ (t : LineEnd) (members : List Line) (same : members ≡ (out-LineEnd t).members) (ns ms : List Node) (listed : ms ≡ ns)
    (made : map view ns ≡ map (λ x. compact (line_of x)) members) where
  its_members : trees_of (map view ms) ≡ compact_members (lines_of (map line_of (out-LineEnd t).members))
  its_members = ap (λ xs. trees_of (map view xs)) listed ∙ ap trees_of made ∙ ap (λ ls. trees_of (map (λ x. compact (line_of x)) ls)) same
      ∙ members_seen (out-LineEnd t).members

  pub end_group : (out-LineEnd t).body ≡ None → and_tree (view (Group ms)) no_trees ≡ compact_elements (end_of t)
  end_group e =
      ap (λ x. and_tree x no_trees) (view-Group ms ∙ ap (group 0) its_members) ∙ sym (ap compact_elements (end_none t e))

  pub end_chord : (b : Line) → (out-LineEnd t).body ≡ Some b → (n : Node) (box : Box Node Global) → box.value ≡ n → view n ≡ compact (line_of b)
      → and_tree (view (Chord ms box)) no_trees ≡ compact_elements (end_of t)
  end_chord b e n box at of_body =
      ap (λ x. and_tree x no_trees) (view-Chord ms box ∙ (λ i. chord 0 (its_members i) ((ap view at ∙ of_body) i))) ∙ sym (ap compact_elements (end_some t b e))
