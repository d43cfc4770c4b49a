use Rattle.std.proofs.Common.{[], ◌∷◌, codes, refl, sym, ap, ◌∙◌, subst, map}
use Rattle.json.specs.Token.{key}
use Rattle.serde_json.specs.Data.{string}
use Rattle.canvas_semantics.specs.Tree.{Tree, chain, group, chord}
use Rattle.canvas_values.specs.steps.Tokens.{Appends, data_tokens}
use Rattle.canvas_values.specs.SignatureView.{view, trees_of}
use Rattle.canvas_values.specs.Writing.{tree_wire, trees_wire}
use Rattle.canvas_values.proofs.Views.{view-Chain, view-Group, view-Chord}
use Rattle.canvas_values.proofs.Written.Writers.{after_ok, then_tokens, sequence_tokens, chord_tokens}
use Rattle.canvas_values.proofs.writing.node.+write_tree.Goals as goal

pub write_body-returns : goal.write_body-returns
write_body-returns t c =
    let named = c.in_ok-key.ensures in
    let front = then_tokens c.args.out.now c.write_opening.new.out c.key.new.self _ (key (codes "body") ∷ []) c.in_ok-write_opening.ensures (named.ok, named.room.0) in
    after_ok c.write_tree.result c.args.out.now c.key.new.self c.write_tree.new.out _ _ _ front c.write_tree.ensures refl

pub write_sequence-returns : goal.write_sequence-returns
write_sequence-returns t c =
    after_ok c.write_last.result c.args.out.now c.write_opening.new.out c.write_last.new.out _ _ _ c.in_ok-write_opening.ensures c.write_last.ensures
    (sequence_tokens (trees_wire (trees_of (map view c.args.nodes.now))) (string c.args.kind.now) c.args.type_name.now)

pub write_tree-returns-in-Chain : goal.write_tree-returns-in-Chain
write_tree-returns-in-Chain t c =
    let seen = ap view c.in-Chain.is ∙ view-Chain c.in-Chain.nodes ∙ ap (λ ns. chain (trees_of (map view ns))) (sym (c.deref.ensures.value ∙ c.get.ensures)) in
    let P : Tree → Type 0 = λ u. Appends c.write_sequence.result c.args.out.now c.write_sequence.new.out (data_tokens (tree_wire u)) in
    subst P (sym seen) c.write_sequence.ensures

pub write_tree-returns-in-Group : goal.write_tree-returns-in-Group
write_tree-returns-in-Group t c =
    let seen = ap view c.in-Group.is ∙ view-Group c.in-Group.nodes
    ∙ ap (λ ns. group 0 (trees_of (map view ns))) (sym (c.deref-in-Group.ensures.value ∙ c.get-in-Group.ensures)) in
    let P : Tree → Type 0 = λ u. Appends c.write_sequence-in-Group.result c.args.out.now c.write_sequence-in-Group.new.out (data_tokens (tree_wire u)) in
    subst P (sym seen) c.write_sequence-in-Group.ensures

pub write_tree-returns-in_ok-write_body-in-Chord : goal.write_tree-returns-in_ok-write_body-in-Chord
write_tree-returns-in_ok-write_body-in-Chord t c =
    let seen = ap view c.in-Chord.is ∙ view-Chord c.in-Chord.header c.in-Chord.body
    ∙ ap (λ ns. chord 0 (trees_of (map view ns)) (view c.in-Chord.body.value)) (sym (c.deref-in-Chord-2.ensures.value ∙ c.get-in-Chord.ensures))
    ∙ ap (λ b. chord 0 (trees_of (map view c.deref-in-Chord-2.result.now)) (view b)) (sym c.deref-in-Chord.ensures) in
    let written = after_ok c.write_last.result c.args.out.now c.write_body.new.out c.write_last.new.out _ _ _ c.in_ok-write_body-in-Chord.ensures
    c.write_last.ensures
    (chord_tokens _ _ (string (codes "chord")) (codes "celery.chord")) in
    let P : Tree → Type 0 = λ u. Appends c.write_last.result c.args.out.now c.write_last.new.out (data_tokens (tree_wire u)) in
    subst P (sym seen) written
