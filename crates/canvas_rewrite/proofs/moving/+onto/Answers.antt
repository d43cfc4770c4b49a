use Rattle.std.proofs.Common.{◌∙◌, map, arith, ap, sym}
use Rattle.canvas_values.specs.SignatureView.{view, trees_of}
use Rattle.canvas_semantics.specs.NormalLine.{all_onto}
use Rattle.canvas_rewrite.specs.steps.Growing.{growing}
use Rattle.canvas_rewrite.specs.steps.Weight.{weight_of}
use Rattle.canvas_rewrite.proofs.Lines.{group_line, chord_line}
use Rattle.canvas_rewrite.proofs.Moved.{weight_last, onto_last, in_chain, in_group, in_header}
use Rattle.canvas_rewrite.proofs.moving.+onto.Goals as goal

pub move_all_onto-move_onto-requires : goal.move_all_onto-move_onto-requires
move_all_onto-move_onto-requires t c =
    (omega (arith, c.decreases, c.loop-node.invariant.1, ap weight_of c.in-Some.ensures.items ∙ weight_last c.pop.new.self.items c.in-Some.node), tt)

pub move_all_onto-loop-node-preserved : goal.move_all_onto-loop-node-preserved
move_all_onto-loop-node-preserved t c = (
  ap (all_onto (trees_of (map view c.pop.new.self.items))) c.in_ok-line.ensures ∙ sym (onto_last c.pop.new.self.items c.in-Some.node (growing c.loop-node.line))
      ∙ ap (λ xs. all_onto (trees_of (map view xs)) (growing c.loop-node.line)) (sym c.in-Some.ensures.items) ∙ c.loop-node.invariant.0,
  omega (arith, c.loop-node.invariant.1, ap weight_of c.in-Some.ensures.items ∙ weight_last c.pop.new.self.items c.in-Some.node),
)

pub move_onto-move_all_onto-requires : goal.move_onto-move_all_onto-requires
move_onto-move_all_onto-requires t c =
    (omega (arith, c.decreases, in_chain c.args.node c.in-Chain.nodes c.into_plain.result.items c.in-Chain.is c.into_plain.ensures), tt)

pub move_onto-move_lines-requires : goal.move_onto-move_lines-requires
move_onto-move_lines-requires t c =
    (omega (arith, c.decreases, in_group c.args.node c.in-Group.nodes c.into_plain-in-Group.result.items c.in-Group.is c.into_plain-in-Group.ensures), tt)

pub move_onto-move_lines-requires-in-Chord : goal.move_onto-move_lines-requires-in-Chord
move_onto-move_lines-requires-in-Chord t c = (
  omega (
    arith,
    c.decreases,
    in_header c.args.node c.in-Chord.header c.into_plain-in-Chord.result.items c.in-Chord.body c.in-Chord.is c.into_plain-in-Chord.ensures,
  ),
  tt,
)

pub move_onto-returns-in_ok-move_lines-in-Group : goal.move_onto-returns-in_ok-move_lines-in-Group
move_onto-returns-in_ok-move_lines-in-Group t c =
    group_line _ _ _ _ _ _ c.in-Group.is c.into_plain-in-Group.ensures c.in_ok-move_lines-in-Group.ensures c.group_onto.ensures

pub move_onto-returns-in_ok-body-in-Chord : goal.move_onto-returns-in_ok-body-in-Chord
move_onto-returns-in_ok-body-in-Chord t c =
    chord_line _ _ _ _ _ _ _ _ c.in_ok-body-in-Chord.body c.into_line.result c.in-Chord.is c.into_plain-in-Chord.ensures c.in_ok-members-in-Chord.ensures
    c.into_inner.ensures
    c.in_ok-body-in-Chord.ensures c.into_line.ensures c.of_end.ensures
