use Rattle.std.proofs.Common.{◌≡◌, ◌∙◌, ◌+◌, sym, arith, rules, map, ap}
use Rattle.canvas_semantics.specs.Tree.{count}
use Rattle.canvas_values.specs.SignatureView.{view}
use Rattle.canvas_values.specs.declared.node.Node as node
use Rattle.canvas_adapt.specs.Renamed.{rename_tree}
use Rattle.canvas_adapt.specs.steps.Renaming.{trees_in, trees_renamed}
use Rattle.canvas_adapt.proofs.Names.{chain_counted, group_counted, chord_counted, chain_as, group_as, chord_as}
use Rattle.canvas_adapt.proofs.renaming.+nodes.Goals as goal

pub rename_node-rename_nodes-requires : goal.rename_node-rename_nodes-requires
rename_node-rename_nodes-requires t c =
    let inside : trees_in (map view c.deref.result.now) ≡ trees_in (map view c.in-Chain.nodes) =
    ap (λ ns. trees_in (map view ns)) (c.deref.ensures.value ∙ c.get.ensures) in
    let all : count (view c.args.node.now) ≡ trees_in (map view c.in-Chain.nodes) =
    ap (λ n. count (view n)) c.in-Chain.is ∙ chain_counted c.in-Chain.nodes in
    (search (rules, node.the_lemmas), omega (arith, inside, all, c.requires.few))

pub rename_node-rename_nodes-requires-in-Group : goal.rename_node-rename_nodes-requires-in-Group
rename_node-rename_nodes-requires-in-Group t c =
    let inside : trees_in (map view c.deref-in-Group.result.now) ≡ trees_in (map view c.in-Group.nodes) =
    ap (λ ns. trees_in (map view ns)) (c.deref-in-Group.ensures.value ∙ c.get-in-Group.ensures) in
    let all : count (view c.args.node.now) ≡ trees_in (map view c.in-Group.nodes) =
    ap (λ n. count (view n)) c.in-Group.is ∙ group_counted c.in-Group.nodes in
    (search (rules, node.the_lemmas), omega (arith, inside, all, c.requires.few))

pub rename_node-rename_nodes-requires-in-Chord : goal.rename_node-rename_nodes-requires-in-Chord
rename_node-rename_nodes-requires-in-Chord t c =
    let inside : trees_in (map view c.deref-in-Chord.result.now) ≡ trees_in (map view c.in-Chord.header) =
    ap (λ ns. trees_in (map view ns)) (c.deref-in-Chord.ensures.value ∙ c.get-in-Chord.ensures) in
    let all : count (view c.args.node.now) ≡ trees_in (map view c.in-Chord.header) + count (view c.in-Chord.body.value) =
    ap (λ n. count (view n)) c.in-Chord.is ∙ chord_counted c.in-Chord.header c.in-Chord.body in
    (search (rules, node.the_lemmas), omega (arith, inside, all, c.requires.few))

pub rename_node-rename_node-requires : goal.rename_node-rename_node-requires
rename_node-rename_node-requires t c =
    let inside : trees_in (map view c.deref-in-Chord.result.now) ≡ trees_in (map view c.in-Chord.header) =
    ap (λ ns. trees_in (map view ns)) (c.deref-in-Chord.ensures.value ∙ c.get-in-Chord.ensures) in
    let body : count (view c.deref-in-Chord-2.result.now) ≡ count (view c.in-Chord.body.value) = ap (λ n. count (view n)) c.deref-in-Chord-2.ensures in
    let all : count (view c.args.node.now) ≡ trees_in (map view c.in-Chord.header) + count (view c.in-Chord.body.value) =
    ap (λ n. count (view n)) c.in-Chord.is ∙ chord_counted c.in-Chord.header c.in-Chord.body in
    (search (rules, node.the_lemmas), omega (arith, inside, body, all, c.in_ok-header-in-Chord.ensures.next, c.requires.few))

pub rename_node-returns-in_ok-nodes-in-Chain-clause-value : goal.rename_node-returns-in_ok-nodes-in-Chain-clause-value
rename_node-returns-in_ok-nodes-in-Chain-clause-value t c =
    chain_as c.args.renames.now c.args.next.now c.in-Chain.nodes _ _ c.of.ensures
    (c.in_ok-nodes-in-Chain.ensures.value ∙ ap (λ ns. trees_renamed c.args.renames.now c.args.next.now (map view ns)) (c.deref.ensures.value ∙ c.get.ensures))
    ∙ sym (ap (λ n. rename_tree c.args.renames.now c.args.next.now (view n)) c.in-Chain.is)

pub rename_node-returns-in_ok-nodes-in-Chain-clause-next : goal.rename_node-returns-in_ok-nodes-in-Chain-clause-next
rename_node-returns-in_ok-nodes-in-Chain-clause-next t c =
    let inside : trees_in (map view c.deref.result.now) ≡ trees_in (map view c.in-Chain.nodes) =
    ap (λ ns. trees_in (map view ns)) (c.deref.ensures.value ∙ c.get.ensures) in
    let all : count (view c.args.node.now) ≡ trees_in (map view c.in-Chain.nodes) =
    ap (λ n. count (view n)) c.in-Chain.is ∙ chain_counted c.in-Chain.nodes in
    omega (arith, inside, all, c.in_ok-nodes-in-Chain.ensures.next)

pub rename_node-returns-in_ok-nodes-in-Group-clause-value : goal.rename_node-returns-in_ok-nodes-in-Group-clause-value
rename_node-returns-in_ok-nodes-in-Group-clause-value t c =
    group_as c.args.renames.now c.args.next.now c.in-Group.nodes _ _ c.of-in-Group.ensures
    (c.in_ok-nodes-in-Group.ensures.value
    ∙ ap (λ ns. trees_renamed c.args.renames.now c.args.next.now (map view ns)) (c.deref-in-Group.ensures.value ∙ c.get-in-Group.ensures))
    ∙ sym (ap (λ n. rename_tree c.args.renames.now c.args.next.now (view n)) c.in-Group.is)

pub rename_node-returns-in_ok-nodes-in-Group-clause-next : goal.rename_node-returns-in_ok-nodes-in-Group-clause-next
rename_node-returns-in_ok-nodes-in-Group-clause-next t c =
    let inside : trees_in (map view c.deref-in-Group.result.now) ≡ trees_in (map view c.in-Group.nodes) =
    ap (λ ns. trees_in (map view ns)) (c.deref-in-Group.ensures.value ∙ c.get-in-Group.ensures) in
    let all : count (view c.args.node.now) ≡ trees_in (map view c.in-Group.nodes) =
    ap (λ n. count (view n)) c.in-Group.is ∙ group_counted c.in-Group.nodes in
    omega (arith, inside, all, c.in_ok-nodes-in-Group.ensures.next)

pub rename_node-returns-in_ok-body-in-Chord-2-clause-value : goal.rename_node-returns-in_ok-body-in-Chord-2-clause-value
rename_node-returns-in_ok-body-in-Chord-2-clause-value t c =
    let rs = c.args.renames.now in
    let header = c.deref-in-Chord.ensures.value ∙ c.get-in-Chord.ensures in
    chord_as rs c.args.next.now c.in-Chord.header _ _ c.of-in-Chord.ensures
    (c.in_ok-header-in-Chord.ensures.value ∙ ap (λ ns. trees_renamed rs c.args.next.now (map view ns)) header)
    c.in-Chord.body _ _ _ (c.in_ok-header-in-Chord.ensures.next ∙ ap (λ ns. c.args.next.now + trees_in (map view ns)) header)
    c.in_ok-body-in-Chord-2.ensures.ok
    (c.in_ok-body-in-Chord.ensures.value ∙ ap (λ n. rename_tree rs c.rename_nodes-in-Chord.new.next (view n)) c.deref-in-Chord-2.ensures)
    ∙ sym (ap (λ n. rename_tree rs c.args.next.now (view n)) c.in-Chord.is)

pub rename_node-returns-in_ok-body-in-Chord-2-clause-next : goal.rename_node-returns-in_ok-body-in-Chord-2-clause-next
rename_node-returns-in_ok-body-in-Chord-2-clause-next t c =
    let inside : trees_in (map view c.deref-in-Chord.result.now) ≡ trees_in (map view c.in-Chord.header) =
    ap (λ ns. trees_in (map view ns)) (c.deref-in-Chord.ensures.value ∙ c.get-in-Chord.ensures) in
    let body : count (view c.deref-in-Chord-2.result.now) ≡ count (view c.in-Chord.body.value) = ap (λ n. count (view n)) c.deref-in-Chord-2.ensures in
    let all : count (view c.args.node.now) ≡ trees_in (map view c.in-Chord.header) + count (view c.in-Chord.body.value) =
    ap (λ n. count (view n)) c.in-Chord.is ∙ chord_counted c.in-Chord.header c.in-Chord.body in
    omega (arith, inside, body, all, c.in_ok-header-in-Chord.ensures.next, c.in_ok-body-in-Chord.ensures.next)
