use Rattle.std.proofs.Common.{◌-◌, ◌∙◌, Ok, sym, ap, map, subst, arith}
use Rattle.std.proofs.lemmas.Result.{err_from_is_err_and}
use Rattle.canvas_sig.specs.Datum.{view}
use Rattle.canvas_values.specs.Answers.{◌>>=◌, Gives, Fails, unless, in_turn}
use Rattle.canvas_values.specs.Fields.{listed, subtype}
use Rattle.canvas_values.specs.Grammar.{primitive_of}
use Rattle.canvas_values.specs.steps.Reading.{header_reading, task_reading, tree_as, tree_with, tree_reading}
use Rattle.canvas_values.specs.SignatureView.{trees_of, view as tree_view}
use Rattle.canvas_semantics.specs.Tree.{chain, group}
use Rattle.canvas_values.proofs.Views.{view-Chain, view-Group}
use Rattle.canvas_sig.proofs.Level.{tree_level_below, none_seen, all_seen, next_seen, stops_seen, fails_with, fails_first, fails_behind}
use Rattle.canvas_sig.proofs.Datums.{next_item}
use Rattle.canvas_sig.proofs.reader.+read_node.Goals as goal

pub read_all-loop-value-preserved : goal.read_all-loop-value-preserved
read_all-loop-value-preserved t c =
    let step = next_item c.args.values.now c.loop-value.value-index c.value-item.result _ (omega (arith, c.loop-value-test.true)) (sym c.value-item.is) in
    c.loop-value.invariant ∙ next_seen tree_view
    (tree_reading c.args.left) c.loop-value.nodes.items _ c.in_ok-read_node.field-0 _ _ _ c.in_ok-push.ensures.items c.in_ok-read_node.ensures step

pub read_all-read_node-requires : goal.read_all-read_node-requires
read_all-read_node-requires t c =
    (omega (arith, c.decreases), tt)

pub read_all-returns-in_err-nodes : goal.read_all-returns-in_err-nodes
read_all-returns-in_err-nodes t c =
    let told = err_from_is_err_and c.from_residual.result c.from_residual.ensures.1 in
    rw (told.1, told.2) tt

pub read_all-returns-in_err-push : goal.read_all-returns-in_err-push
read_all-returns-in_err-push t c =
    let told = err_from_is_err_and c.from_residual-in_err-push.result c.from_residual-in_err-push.ensures.1 in
    rw (told.1, told.2) tt

pub read_all-returns-in_err-read_node : goal.read_all-returns-in_err-read_node
read_all-returns-in_err-read_node t c =
    let step = next_item c.args.values.now c.loop-value.value-index c.value-item.result _ (omega (arith, c.loop-value-test.true)) (sym c.value-item.is) in
    let told = err_from_is_err_and c.from_residual-in_err-read_node.result c.from_residual-in_err-read_node.ensures.1 in
    let fault = c.in_err-read_node.field-0.0 in
    rw (told.1, told.2)
    (subst (λ r. Fails fault r) (sym c.loop-value.invariant)
    (stops_seen tree_view (tree_reading c.args.left) c.loop-value.nodes.items fault _ _ _ c.in_err-read_node.ensures step))

pub read_as-read_chain-requires : goal.read_as-read_chain-requires
read_as-read_chain-requires t c =
    (omega (arith, c.decreases), c.requires)

pub read_as-read_group-requires : goal.read_as-read_group-requires
read_as-read_group-requires t c =
    (omega (arith, c.decreases), c.requires)

pub read_as-read_chord-requires : goal.read_as-read_chord-requires
read_as-read_chord-requires t c =
    (omega (arith, c.decreases), c.requires)

pub read_chain-read_all-requires : goal.read_chain-read_all-requires
read_chain-read_all-requires t c =
    (omega (arith, c.decreases), tt)

pub read_group-read_all-requires : goal.read_group-read_all-requires
read_group-read_all-requires t c =
    (omega (arith, c.decreases), tt)

pub read_chord-read_header-requires : goal.read_chord-read_header-requires
read_chord-read_header-requires t c =
    (omega (arith, c.decreases), tt)

pub read_chord-read_node-requires : goal.read_chord-read_node-requires
read_chord-read_node-requires t c =
    (omega (arith, c.decreases), tt)

pub read_header-read_all-requires : goal.read_header-read_all-requires
read_header-read_all-requires t c =
    (omega (arith, c.decreases), tt)

pub read_header-read_node-requires : goal.read_header-read_node-requires
read_header-read_node-requires t c =
    (omega (arith, c.decreases), tt)

pub read_checked-read_as-requires : goal.read_checked-read_as-requires
read_checked-read_as-requires t c =
    (omega (arith, c.decreases), c.requires)

pub read_node-read_checked-requires : goal.read_node-read_checked-requires
read_node-read_checked-requires t c =
    (omega (arith, c.decreases, c.if-left-eq0.false), c.of-members.ensures.found)

pub read_chain-returns-in_err-nodes : goal.read_chain-returns-in_err-nodes
read_chain-returns-in_err-nodes t c =
    let told = err_from_is_err_and c.from_residual.result c.from_residual.ensures.1 in
    let fault = c.in_err-nodes.field-0.0 in
    rw (told.1, told.2) (fails_first fault _ _
    (subst (λ ds. Fails fault (in_turn (tree_reading c.args.left) ds)) (c.listed.ensures ∙ ap listed c.kwarg.ensures) c.in_err-nodes.ensures))

pub read_group-returns-in_err-nodes : goal.read_group-returns-in_err-nodes
read_group-returns-in_err-nodes t c =
    let told = err_from_is_err_and c.from_residual.result c.from_residual.ensures.1 in
    let fault = c.in_err-nodes.field-0.0 in
    rw (told.1, told.2) (fails_first fault _ _
    (subst (λ ds. Fails fault (in_turn (tree_reading c.args.left) ds)) (c.listed.ensures ∙ ap listed c.kwarg.ensures) c.in_err-nodes.ensures))

pub read_chord-returns-in_err-header : goal.read_chord-returns-in_err-header
read_chord-returns-in_err-header t c =
    let told = err_from_is_err_and c.from_residual.result c.from_residual.ensures.1 in
    let fault = c.in_err-header.field-0.0 in
    rw (told.1, told.2) (fails_first fault _ _
    (subst (λ d. Fails fault (header_reading (tree_reading c.args.left) d)) c.kwarg.ensures c.in_err-header.ensures))

pub read_chord-returns-in_err-body : goal.read_chord-returns-in_err-body
read_chord-returns-in_err-body t c =
    let told = err_from_is_err_and c.from_residual-in_err-body.result c.from_residual-in_err-body.ensures.1 in
    let fault = c.in_err-body.field-0.0 in
    rw (told.1, told.2) (fails_behind fault _ _ _
    (ap (header_reading (tree_reading c.args.left)) (sym c.kwarg.ensures) ∙ c.in_ok-header.ensures)
    (fails_first fault _ _ (subst (λ d. Fails fault (tree_reading c.args.left d)) (c.or_null.ensures ∙ c.kwarg-2.ensures) c.in_err-body.ensures)))

pub read_chord-returns-in_err-new : goal.read_chord-returns-in_err-new
read_chord-returns-in_err-new t c =
    let told = err_from_is_err_and c.from_residual-in_err-new.result c.from_residual-in_err-new.ensures.1 in
    rw (told.1, told.2) tt

pub read_checked-returns-in-Some : goal.read_checked-returns-in-Some
read_checked-returns-in-Some t c =
    fails_with c.in-Some.fault _ (ap (λ o. unless o (tree_as (task_reading c.args.left) (tree_reading c.args.left) (primitive_of (subtype
    (view c.args.members.now.value.now))) (view c.args.members.now.value.now))) (sym c.first_fault.ensures ∙ c.in-Some.is))

pub read_all-loop-value-init : goal.read_all-loop-value-init
read_all-loop-value-init t c =
    none_seen tree_view (tree_reading c.args.left) (map view c.args.values.now) c.in_ok-nodes.nodes.items c.in_ok-nodes.ensures.items

pub read_all-returns : goal.read_all-returns
read_all-returns t c =
    c.loop-value.invariant ∙ all_seen tree_view view
    (tree_reading c.args.left) c.loop-value.nodes.items c.args.values.now c.loop-value.value-index c.loop-value-test.false

pub read_node-returns-then-left-eq0 : goal.read_node-returns-then-left-eq0
read_node-returns-then-left-eq0 t c =
    ap (λ n. tree_reading n (view c.args.value.now)) c.if-left-eq0.true

pub read_node-returns : goal.read_node-returns
read_node-returns t c =
    subst (Gives tree_view c.read_checked.result)
    (ap (λ v. tree_with (task_reading (c.args.left - 1)) (tree_reading (c.args.left - 1)) (view v)) c.of-members.ensures.same
    ∙ sym (tree_level_below c.args.left (view c.args.value.now) c.if-left-eq0.false))
    c.read_checked.ensures

pub read_checked-returns-in-None : goal.read_checked-returns-in-None
read_checked-returns-in-None t c =
    subst (Gives tree_view c.read_as.result)
    (sym (ap (λ o. unless o (tree_as (task_reading c.args.left) (tree_reading c.args.left) (primitive_of (subtype
    (view c.args.members.now.value.now))) (view c.args.members.now.value.now))) (sym c.first_fault.ensures ∙ c.in-None.is)
    ∙ ap (λ p. tree_as (task_reading c.args.left) (tree_reading c.args.left) p (view c.args.members.now.value.now)) (sym (c.primitive_of.ensures
    ∙ ap primitive_of c.requires.kind_found))))
    c.read_as.ensures

pub read_chain-returns : goal.read_chain-returns
read_chain-returns t c =
    ap (λ r. r >>= λ ts. Ok (chain (trees_of ts))) (sym (ap (in_turn (tree_reading c.args.left)) (c.listed.ensures ∙ ap listed c.kwarg.ensures))
    ∙ c.in_ok-nodes.ensures)
    ∙ ap (λ ns. Ok (chain (trees_of (map tree_view ns)))) (sym c.of.ensures) ∙ ap Ok (sym (view-Chain c.of.result))

pub read_group-returns : goal.read_group-returns
read_group-returns t c =
    ap (λ r. r >>= λ ts. Ok (group 0 (trees_of ts))) (sym (ap (in_turn (tree_reading c.args.left)) (c.listed.ensures ∙ ap listed c.kwarg.ensures))
    ∙ c.in_ok-nodes.ensures)
    ∙ ap (λ ns. Ok (group 0 (trees_of (map tree_view ns)))) (sym c.of.ensures) ∙ ap Ok (sym (view-Group c.of.result))
