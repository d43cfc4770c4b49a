use Rattle.std.proofs.Common.{◌≡◌, ◌∙◌, false, None, sym, ap, map, subst, rules, arith}
use Rattle.std.proofs.lemmas.Result.{err_from_is_err_and}
use Rattle.std.specs.Prelude.{codes, unwrap_or, Ok}
use Rattle.serde_json.specs.Data.{null}
use Rattle.canvas_task.specs.Entries.{named}
use Rattle.canvas_sig.specs.Datum.{view, value_at}
use Rattle.canvas_values.specs.Answers.{Gives, Fails, ◌or_else◌, unless, in_turn}
use Rattle.canvas_values.specs.Fields.{option, listed, tasks, as_list, object_members, text_of, is_true}
use Rattle.canvas_values.specs.Grammar.{own_fault, arg_reading, named_reading}
use Rattle.canvas_rewrite.specs.FrozenView.{p_task_view, p_line_view}
use Rattle.canvas_envelope.specs.FrozenGrammar.{task_of, group_of, but_a_place}
use Rattle.canvas_codec.specs.steps.FrozenReading.{if_numbered, place_with, task_with, group_with, chord_with, header_fault, elements_with, link_reading, step_reading, last_reading, line_reading}
use Rattle.canvas_codec.proofs.Made.{task_read, group_read, chord_read, last_apart, no_line, last_item, no_items}
use Rattle.canvas_codec.proofs.Turns.{read_on, read_all}
use Rattle.canvas_codec.proofs.Refused.{refused_first, refused_behind, refused_unless, refused_at_once, neither, refused_args, refused_kwargs, refused_links, refused_errbacks, refused_place}
use Rattle.canvas_codec.proofs.read.frozen.+read.Goals as goal

pub read_task-returns : goal.read_task-returns
read_task-returns t c =
    let none : but_a_place (own_fault c.args.linked (view c.args.value.now)) ≡ None = sym
    (c.but_a_place.ensures ∙ ap but_a_place c.own_fault.ensures) ∙ c.in_ok-refuse.ensures.ok in
    ap (λ o. unless o (task_with (link_reading c.args.left) (line_reading c.args.left) (view c.args.value.now))) none
    ∙ task_read (link_reading c.args.left) (line_reading c.args.left)
    (view c.args.value.now) c.in_ok-no.no c.of.result c.of-2.result c.of-3.result c.is_true.result c.of-4.result c.of-5.result c.in_ok-place.place
    (ap (λ d. if_numbered (task_of d)) (sym c.option_of.ensures) ∙ c.in_ok-no.ensures) (sym (ap (in_turn arg_reading) (c.listed.ensures ∙ ap
    (λ o. listed (unwrap_or o null)) c.get.ensures)) ∙ c.in_ok-args.ensures ∙ ap Ok (sym c.of-2.ensures))
    (ap (λ o. in_turn named_reading (object_members (unwrap_or o null))) (sym c.get-2.ensures) ∙ c.in_ok-kwargs.ensures ∙ ap Ok (sym c.of-3.ensures))
    (ap (in_turn (link_reading c.args.left)) (sym (c.as_list.ensures ∙ ap as_list c.option_of-2.ensures)) ∙ c.in_ok-links.ensures ∙ ap (λ ts. Ok
    (map p_task_view ts)) (sym c.of-4.ensures))
    (ap (in_turn (link_reading c.args.left)) (sym (c.as_list-2.ensures ∙ ap as_list c.option_of-3.ensures)) ∙ c.in_ok-errbacks.ensures ∙ ap
    (λ ts. Ok (map p_task_view ts)) (sym c.of-5.ensures))
    (ap (λ d. place_with (line_reading c.args.left) d (option (codes "chord") (view c.args.value.now))) (sym c.option_of-group.ensures)
    ∙ ap (λ d. place_with (line_reading c.args.left) (value_at c.option_of-group.result) d) (sym c.option_of-4.ensures) ∙ c.in_ok-place.ensures)
    (ap (λ o. text_of (unwrap_or o null)) (sym c.get-3.ensures) ∙ sym c.in_ok-name.ensures ∙ sym c.of.ensures)
    (ap (λ o. is_true (unwrap_or o null)) (sym c.get-4.ensures) ∙ sym c.is_true.ensures)

pub read_group-returns : goal.read_group-returns
read_group-returns t c =
    let none : own_fault false (view c.args.value.now) ≡ None = sym c.own_fault.ensures ∙ c.in_ok-refuse.ensures.ok in
    ap (λ o. unless o (group_with (line_reading c.args.left) (view c.args.value.now))) none
    ∙ group_read (line_reading c.args.left) (view c.args.value.now) c.in_ok-group.group c.of.result
    (ap (λ d. if_numbered (group_of d)) (sym c.option_of.ensures) ∙ c.in_ok-group.ensures)
    (ap (in_turn (line_reading c.args.left)) (sym (c.listed.ensures ∙ ap listed c.kwarg_of.ensures)) ∙ c.in_ok-members.ensures
    ∙ ap (λ ls. Ok (map p_line_view ls)) (sym c.of.ensures))

pub read_chord-returns : goal.read_chord-returns
read_chord-returns t c =
    let none : (own_fault false (view c.args.value.now) or_else header_fault (view c.args.value.now)) ≡ None = neither _ _
    (sym c.own_fault.ensures ∙ c.in_ok-refuse.ensures.ok) (sym c.header_fault.ensures ∙ c.in_ok-refuse-2.ensures.ok) in
    ap (λ o. unless o (chord_with (line_reading c.args.left) (view c.args.value.now))) none
    ∙ chord_read (line_reading c.args.left) (view c.args.value.now) c.in_ok-group.group c.of.result c.in_ok-body.body
    (ap (λ d. if_numbered (group_of d)) (sym c.option_of.ensures) ∙ c.in_ok-group.ensures)
    (ap (in_turn (line_reading c.args.left)) (sym (c.listed.ensures ∙ ap listed c.kwarg_of.ensures)) ∙ c.in_ok-members.ensures
    ∙ ap (λ ls. Ok (map p_line_view ls)) (sym c.of.ensures)) (search rules)

pub read_chain-returns-in-empty : goal.read_chain-returns-in-empty
read_chain-returns-in-empty t c =
    let elements = elements_with (step_reading c.args.left) (last_reading c.args.left) in
    let none : own_fault false (view c.args.value.now) ≡ None = sym c.own_fault.ensures ∙ c.in_ok-refuse.ensures.ok in
    let same : listed (tasks (view c.args.value.now)) ≡ map view c.listed.result.now = sym (c.listed.ensures ∙ ap listed c.kwarg_of.ensures) in
    ap (λ o. unless o (elements (listed (tasks (view c.args.value.now))))) none
    ∙ no_line (listed (tasks (view c.args.value.now))) (step_reading c.args.left) (last_reading c.args.left) c.of.result
    (same ∙ no_items c.listed.result.now c.in-empty.len_below) (c.of.ensures ∙ c.new.ensures.items)

pub read_chain-returns-in-len1-up : goal.read_chain-returns-in-len1-up
read_chain-returns-in-len1-up t c =
    let elements = elements_with (step_reading c.args.left) (last_reading c.args.left) in
    let none : own_fault false (view c.args.value.now) ≡ None = sym c.own_fault.ensures ∙ c.in_ok-refuse.ensures.ok in
    let same : listed (tasks (view c.args.value.now)) ≡ map view c.listed.result.now = sym (c.listed.ensures ∙ ap listed c.kwarg_of.ensures) in
    subst (Gives p_line_view c.read_parts.result)
    (sym (ap (λ o. unless o (elements (listed (tasks (view c.args.value.now))))) none
    ∙ ap elements (same ∙ last_item c.listed.result.now c.last-item.result c.in-len1-up.len_at_least c.last-item.is)
    ∙ last_apart (step_reading c.args.left) (last_reading c.args.left) _ _))
    c.read_parts.ensures

pub read_all_links-loop-value-preserved : goal.read_all_links-loop-value-preserved
read_all_links-loop-value-preserved t c =
    read_on p_task_view (link_reading c.args.left) c.args.values.now c.loop-value.value-index c.value-item.result c.in_ok-read_link.field-0 _ _
    c.loop-value-test.true
    c.value-item.is c.in_ok-read_link.ensures c.loop-value.invariant c.in_ok-push.ensures.items

pub read_all_links-returns : goal.read_all_links-returns
read_all_links-returns t c =
    read_all p_task_view (link_reading c.args.left) c.args.values.now c.loop-value.value-index _ c.loop-value-test.false c.loop-value.invariant

pub read_steps-loop-value-preserved : goal.read_steps-loop-value-preserved
read_steps-loop-value-preserved t c =
    read_on p_task_view (step_reading c.args.left) c.args.values.now c.loop-value.value-index c.value-item.result c.in_ok-read_step.field-0 _ _
    c.loop-value-test.true
    c.value-item.is c.in_ok-read_step.ensures c.loop-value.invariant c.in_ok-push.ensures.items

pub read_steps-returns : goal.read_steps-returns
read_steps-returns t c =
    read_all p_task_view (step_reading c.args.left) c.args.values.now c.loop-value.value-index _ c.loop-value-test.false c.loop-value.invariant

pub read_lines-loop-value-preserved : goal.read_lines-loop-value-preserved
read_lines-loop-value-preserved t c =
    read_on p_line_view (line_reading c.args.left) c.args.values.now c.loop-value.value-index c.value-item.result c.in_ok-read_line.field-0 _ _
    c.loop-value-test.true
    c.value-item.is c.in_ok-read_line.ensures c.loop-value.invariant c.in_ok-push.ensures.items

pub read_lines-returns : goal.read_lines-returns
read_lines-returns t c =
    read_all p_line_view (line_reading c.args.left) c.args.values.now c.loop-value.value-index _ c.loop-value-test.false c.loop-value.invariant

pub read_task-returns-in_err-refuse : goal.read_task-returns-in_err-refuse
read_task-returns-in_err-refuse t c =
    let told = err_from_is_err_and c.from_residual.result c.from_residual.ensures.1 in
    rw (told.1, told.2) (refused_at_once c.in_err-refuse.field-0.0 _ (task_with (link_reading c.args.left) (line_reading c.args.left)
    (view c.args.value.now))
    (sym (c.but_a_place.ensures ∙ ap but_a_place c.own_fault.ensures) ∙ c.in_err-refuse.ensures.err))

pub read_task-returns-in_err-no : goal.read_task-returns-in_err-no
read_task-returns-in_err-no t c =
    let own : but_a_place (own_fault c.args.linked (view c.args.value.now)) ≡ None = sym
    (c.but_a_place.ensures ∙ ap but_a_place c.own_fault.ensures) ∙ c.in_ok-refuse.ensures.ok in
    let told = err_from_is_err_and c.from_residual-in_err-no.result c.from_residual-in_err-no.ensures.1 in
    rw (told.1, told.2) (refused_unless c.in_err-no.field-0.0 _ (task_with (link_reading c.args.left) (line_reading c.args.left)
    (view c.args.value.now)) own
    (refused_first c.in_err-no.field-0.0 _ _ (subst (λ d. Fails c.in_err-no.field-0.0 (if_numbered (task_of d))) c.option_of.ensures c.in_err-no.ensures)))

pub read_task-returns-in_err-args : goal.read_task-returns-in_err-args
read_task-returns-in_err-args t c =
    let own : but_a_place (own_fault c.args.linked (view c.args.value.now)) ≡ None = sym
    (c.but_a_place.ensures ∙ ap but_a_place c.own_fault.ensures) ∙ c.in_ok-refuse.ensures.ok in
    let told = err_from_is_err_and c.from_residual-in_err-args.result c.from_residual-in_err-args.ensures.1 in
    rw (told.1, told.2) (refused_unless c.in_err-args.field-0.0 _ (task_with (link_reading c.args.left) (line_reading c.args.left)
    (view c.args.value.now)) own
    (refused_args (link_reading c.args.left) (line_reading c.args.left) (view c.args.value.now) c.in_err-args.field-0.0 c.in_ok-no.no (ap
    (λ d. if_numbered (task_of d)) (sym c.option_of.ensures) ∙ c.in_ok-no.ensures) (subst (λ ds. Fails c.in_err-args.field-0.0
    (in_turn arg_reading ds)) (c.listed.ensures ∙ ap (λ o. listed (unwrap_or o null)) c.get.ensures) c.in_err-args.ensures)))

pub read_task-returns-in_err-kwargs : goal.read_task-returns-in_err-kwargs
read_task-returns-in_err-kwargs t c =
    let own : but_a_place (own_fault c.args.linked (view c.args.value.now)) ≡ None = sym
    (c.but_a_place.ensures ∙ ap but_a_place c.own_fault.ensures) ∙ c.in_ok-refuse.ensures.ok in
    let told = err_from_is_err_and c.from_residual-in_err-kwargs.result c.from_residual-in_err-kwargs.ensures.1 in
    rw (told.1, told.2) (refused_unless c.in_err-kwargs.field-0.0 _ (task_with (link_reading c.args.left) (line_reading c.args.left)
    (view c.args.value.now)) own
    (refused_kwargs (link_reading c.args.left) (line_reading c.args.left)
    (view c.args.value.now) c.in_err-kwargs.field-0.0 c.in_ok-no.no c.in_ok-args.args.items (ap (λ d. if_numbered (task_of d))
    (sym c.option_of.ensures) ∙ c.in_ok-no.ensures) (sym (ap (in_turn arg_reading) (c.listed.ensures ∙ ap (λ o. listed
    (unwrap_or o null)) c.get.ensures)) ∙ c.in_ok-args.ensures)
    (subst (λ o. Fails c.in_err-kwargs.field-0.0 (in_turn named_reading (object_members (unwrap_or o null)))) c.get-2.ensures c.in_err-kwargs.ensures)))

pub read_task-returns-in_err-links : goal.read_task-returns-in_err-links
read_task-returns-in_err-links t c =
    let own : but_a_place (own_fault c.args.linked (view c.args.value.now)) ≡ None = sym
    (c.but_a_place.ensures ∙ ap but_a_place c.own_fault.ensures) ∙ c.in_ok-refuse.ensures.ok in
    let told = err_from_is_err_and c.from_residual-in_err-links.result c.from_residual-in_err-links.ensures.1 in
    rw (told.1, told.2) (refused_unless c.in_err-links.field-0.0 _ (task_with (link_reading c.args.left) (line_reading c.args.left)
    (view c.args.value.now)) own
    (refused_links (link_reading c.args.left) (line_reading c.args.left)
    (view c.args.value.now) c.in_err-links.field-0.0 c.in_ok-no.no c.in_ok-args.args.items (named c.in_ok-kwargs.kwargs.entries) (ap
    (λ d. if_numbered (task_of d)) (sym c.option_of.ensures) ∙ c.in_ok-no.ensures) (sym (ap (in_turn arg_reading) (c.listed.ensures ∙ ap
    (λ o. listed (unwrap_or o null)) c.get.ensures)) ∙ c.in_ok-args.ensures)
    (ap (λ o. in_turn named_reading (object_members (unwrap_or o null))) (sym c.get-2.ensures) ∙ c.in_ok-kwargs.ensures)
    (subst (λ ds. Fails c.in_err-links.field-0.0 (in_turn (link_reading c.args.left) ds))
    (c.as_list.ensures ∙ ap as_list c.option_of-2.ensures) c.in_err-links.ensures)))

pub read_task-returns-in_err-errbacks : goal.read_task-returns-in_err-errbacks
read_task-returns-in_err-errbacks t c =
    let own : but_a_place (own_fault c.args.linked (view c.args.value.now)) ≡ None = sym
    (c.but_a_place.ensures ∙ ap but_a_place c.own_fault.ensures) ∙ c.in_ok-refuse.ensures.ok in
    let told = err_from_is_err_and c.from_residual-in_err-errbacks.result c.from_residual-in_err-errbacks.ensures.1 in
    rw (told.1, told.2) (refused_unless c.in_err-errbacks.field-0.0 _ (task_with (link_reading c.args.left) (line_reading c.args.left)
    (view c.args.value.now)) own
    (refused_errbacks (link_reading c.args.left) (line_reading c.args.left)
    (view c.args.value.now) c.in_err-errbacks.field-0.0 c.in_ok-no.no c.in_ok-args.args.items (named c.in_ok-kwargs.kwargs.entries) _ (ap
    (λ d. if_numbered (task_of d)) (sym c.option_of.ensures) ∙ c.in_ok-no.ensures) (sym (ap (in_turn arg_reading) (c.listed.ensures ∙ ap
    (λ o. listed (unwrap_or o null)) c.get.ensures)) ∙ c.in_ok-args.ensures)
    (ap (λ o. in_turn named_reading (object_members (unwrap_or o null))) (sym c.get-2.ensures) ∙ c.in_ok-kwargs.ensures)
    (ap (in_turn (link_reading c.args.left)) (sym (c.as_list.ensures ∙ ap as_list c.option_of-2.ensures)) ∙ c.in_ok-links.ensures) (subst
    (λ ds. Fails c.in_err-errbacks.field-0.0 (in_turn (link_reading c.args.left) ds))
    (c.as_list-2.ensures ∙ ap as_list c.option_of-3.ensures) c.in_err-errbacks.ensures)))

pub read_task-returns-in_err-place : goal.read_task-returns-in_err-place
read_task-returns-in_err-place t c =
    let own : but_a_place (own_fault c.args.linked (view c.args.value.now)) ≡ None = sym
    (c.but_a_place.ensures ∙ ap but_a_place c.own_fault.ensures) ∙ c.in_ok-refuse.ensures.ok in
    let told = err_from_is_err_and c.from_residual-in_err-place.result c.from_residual-in_err-place.ensures.1 in
    rw (told.1, told.2) (refused_unless c.in_err-place.field-0.0 _ (task_with (link_reading c.args.left) (line_reading c.args.left)
    (view c.args.value.now)) own
    (refused_place (link_reading c.args.left) (line_reading c.args.left)
    (view c.args.value.now) c.in_err-place.field-0.0 c.in_ok-no.no c.in_ok-args.args.items (named c.in_ok-kwargs.kwargs.entries) _ _ (ap
    (λ d. if_numbered (task_of d)) (sym c.option_of.ensures) ∙ c.in_ok-no.ensures) (sym (ap (in_turn arg_reading) (c.listed.ensures ∙ ap
    (λ o. listed (unwrap_or o null)) c.get.ensures)) ∙ c.in_ok-args.ensures)
    (ap (λ o. in_turn named_reading (object_members (unwrap_or o null))) (sym c.get-2.ensures) ∙ c.in_ok-kwargs.ensures)
    (ap (in_turn (link_reading c.args.left)) (sym (c.as_list.ensures ∙ ap as_list c.option_of-2.ensures)) ∙ c.in_ok-links.ensures) (ap (in_turn
    (link_reading c.args.left)) (sym (c.as_list-2.ensures ∙ ap as_list c.option_of-3.ensures)) ∙ c.in_ok-errbacks.ensures)
    (subst (λ d. Fails c.in_err-place.field-0.0 (place_with (line_reading c.args.left) d (option (codes "chord") (view c.args.value.now)))) c.option_of-group.ensures
    (subst (λ d. Fails c.in_err-place.field-0.0 (place_with (line_reading c.args.left)
    (value_at c.option_of-group.result) d)) c.option_of-4.ensures c.in_err-place.ensures))))

pub read_task-returns-in_err-name : goal.read_task-returns-in_err-name
read_task-returns-in_err-name t c =
    let told = err_from_is_err_and c.from_residual-in_err-name.result c.from_residual-in_err-name.ensures.1 in
    rw (told.1, told.2) tt

pub read_task-read_all_links-requires : goal.read_task-read_all_links-requires
read_task-read_all_links-requires t c =
    (omega (arith, c.decreases), tt)

pub read_task-read_all_links-requires-2 : goal.read_task-read_all_links-requires-2
read_task-read_all_links-requires-2 t c =
    (omega (arith, c.decreases), tt)

pub read_task-read_place-requires : goal.read_task-read_place-requires
read_task-read_place-requires t c =
    (omega (arith, c.decreases), tt)

pub read_chord-read_lines-requires : goal.read_chord-read_lines-requires
read_chord-read_lines-requires t c =
    (omega (arith, c.decreases), tt)

pub read_chord-read_line-requires : goal.read_chord-read_line-requires
read_chord-read_line-requires t c =
    (omega (arith, c.decreases), tt)

pub read_group-read_lines-requires : goal.read_group-read_lines-requires
read_group-read_lines-requires t c =
    (omega (arith, c.decreases), tt)

pub read_carried-read_line-requires : goal.read_carried-read_line-requires
read_carried-read_line-requires t c =
    (omega (arith, c.decreases), tt)

pub read_place-read_carried-requires : goal.read_place-read_carried-requires
read_place-read_carried-requires t c =
    (omega (arith, c.decreases), tt)

pub read_parts-read_steps-requires : goal.read_parts-read_steps-requires
read_parts-read_steps-requires t c =
    (omega (arith, c.decreases), tt)

pub read_parts-read_last-requires : goal.read_parts-read_last-requires
read_parts-read_last-requires t c =
    (omega (arith, c.decreases), tt)

pub read_chain-read_parts-requires : goal.read_chain-read_parts-requires
read_chain-read_parts-requires t c =
    (omega (arith, c.decreases), tt)

pub read_all_links-read_link-requires : goal.read_all_links-read_link-requires
read_all_links-read_link-requires t c =
    (omega (arith, c.decreases), tt)

pub read_steps-read_step-requires : goal.read_steps-read_step-requires
read_steps-read_step-requires t c =
    (omega (arith, c.decreases), tt)

pub read_lines-read_line-requires : goal.read_lines-read_line-requires
read_lines-read_line-requires t c =
    (omega (arith, c.decreases), tt)

pub read_last_as-read_task-requires : goal.read_last_as-read_task-requires
read_last_as-read_task-requires t c =
    (omega (arith, c.decreases), tt)

pub read_last_as-read_group-requires : goal.read_last_as-read_group-requires
read_last_as-read_group-requires t c =
    (omega (arith, c.decreases), tt)

pub read_last_as-read_chord-requires : goal.read_last_as-read_chord-requires
read_last_as-read_chord-requires t c =
    (omega (arith, c.decreases), tt)

pub read_last-read_last_as-requires : goal.read_last-read_last_as-requires
read_last-read_last_as-requires t c =
    (omega (arith, c.decreases, c.if-left-eq0.false), tt)

pub read_line-read_chain-requires : goal.read_line-read_chain-requires
read_line-read_chain-requires t c =
    (omega (arith, c.decreases, c.if-left-eq0.false), tt)

pub read_line-read_last_as-requires : goal.read_line-read_last_as-requires
read_line-read_last_as-requires t c =
    (omega (arith, c.decreases, c.if-left-eq0.false), tt)

pub read_link-read_task-requires : goal.read_link-read_task-requires
read_link-read_task-requires t c =
    (omega (arith, c.decreases, c.if-left-eq0.false), tt)

pub read_step-read_task-requires : goal.read_step-read_task-requires
read_step-read_task-requires t c =
    (omega (arith, c.decreases, c.if-left-eq0.false), tt)

pub read_chain-returns-in_err-refuse : goal.read_chain-returns-in_err-refuse
read_chain-returns-in_err-refuse t c =
    let told = err_from_is_err_and c.from_residual.result c.from_residual.ensures.1 in
    rw (told.1, told.2) (refused_at_once c.in_err-refuse.field-0.0 _ (elements_with (step_reading c.args.left) (last_reading c.args.left) (listed
    (tasks (view c.args.value.now))))
    (sym c.own_fault.ensures ∙ c.in_err-refuse.ensures.err))

pub read_group-returns-in_err-refuse : goal.read_group-returns-in_err-refuse
read_group-returns-in_err-refuse t c =
    let told = err_from_is_err_and c.from_residual.result c.from_residual.ensures.1 in
    rw (told.1, told.2) (refused_at_once c.in_err-refuse.field-0.0 _ (group_with (line_reading c.args.left) (view c.args.value.now))
    (sym c.own_fault.ensures ∙ c.in_err-refuse.ensures.err))

pub read_group-returns-in_err-group : goal.read_group-returns-in_err-group
read_group-returns-in_err-group t c =
    let told = err_from_is_err_and c.from_residual-in_err-group.result c.from_residual-in_err-group.ensures.1 in
    rw (told.1, told.2) (refused_unless c.in_err-group.field-0.0 _ (group_with (line_reading c.args.left) (view c.args.value.now))
    (sym c.own_fault.ensures ∙ c.in_ok-refuse.ensures.ok)
    (refused_first c.in_err-group.field-0.0 _ _ (subst (λ d. Fails c.in_err-group.field-0.0 (if_numbered
    (group_of d))) c.option_of.ensures c.in_err-group.ensures)))

pub read_group-returns-in_err-members : goal.read_group-returns-in_err-members
read_group-returns-in_err-members t c =
    let told = err_from_is_err_and c.from_residual-in_err-members.result c.from_residual-in_err-members.ensures.1 in
    rw (told.1, told.2) (refused_unless c.in_err-members.field-0.0 _ (group_with (line_reading c.args.left) (view c.args.value.now))
    (sym c.own_fault.ensures ∙ c.in_ok-refuse.ensures.ok)
    (refused_behind c.in_err-members.field-0.0 _ c.in_ok-group.group _ (ap (λ d. if_numbered (group_of d))
    (sym c.option_of.ensures) ∙ c.in_ok-group.ensures)
    (refused_first c.in_err-members.field-0.0 _ _ (subst (λ ds. Fails c.in_err-members.field-0.0 (in_turn (line_reading c.args.left) ds))
    (c.listed.ensures ∙ ap listed c.kwarg_of.ensures) c.in_err-members.ensures))))

pub read_chord-returns-in_err-group : goal.read_chord-returns-in_err-group
read_chord-returns-in_err-group t c =
    let told = err_from_is_err_and c.from_residual-in_err-group.result c.from_residual-in_err-group.ensures.1 in
    rw (told.1, told.2) (refused_unless c.in_err-group.field-0.0 _ (chord_with (line_reading c.args.left) (view c.args.value.now)) (neither _ _
    (sym c.own_fault.ensures ∙ c.in_ok-refuse.ensures.ok) (sym c.header_fault.ensures ∙ c.in_ok-refuse-2.ensures.ok))
    (refused_first c.in_err-group.field-0.0 _ _ (subst (λ d. Fails c.in_err-group.field-0.0 (if_numbered
    (group_of d))) c.option_of.ensures c.in_err-group.ensures)))

pub read_chord-returns-in_err-members : goal.read_chord-returns-in_err-members
read_chord-returns-in_err-members t c =
    let told = err_from_is_err_and c.from_residual-in_err-members.result c.from_residual-in_err-members.ensures.1 in
    rw (told.1, told.2) (refused_unless c.in_err-members.field-0.0 _ (chord_with (line_reading c.args.left) (view c.args.value.now)) (neither _ _
    (sym c.own_fault.ensures ∙ c.in_ok-refuse.ensures.ok) (sym c.header_fault.ensures ∙ c.in_ok-refuse-2.ensures.ok))
    (refused_behind c.in_err-members.field-0.0 _ c.in_ok-group.group _ (ap (λ d. if_numbered (group_of d))
    (sym c.option_of.ensures) ∙ c.in_ok-group.ensures)
    (refused_first c.in_err-members.field-0.0 _ _ (subst (λ ds. Fails c.in_err-members.field-0.0 (in_turn (line_reading c.args.left) ds))
    (c.listed.ensures ∙ ap listed c.kwarg_of.ensures) c.in_err-members.ensures))))

pub read_chord-returns-in_err-refuse : goal.read_chord-returns-in_err-refuse
read_chord-returns-in_err-refuse t c =
    let told = err_from_is_err_and c.from_residual.result c.from_residual.ensures.1 in
    rw (told.1, told.2) (refused_at_once c.in_err-refuse.field-0.0 _ (chord_with (line_reading c.args.left) (view c.args.value.now))
    (ap (λ o. o or_else header_fault (view c.args.value.now)) (sym c.own_fault.ensures ∙ c.in_err-refuse.ensures.err)))

pub read_chord-returns-in_err-refuse-2 : goal.read_chord-returns-in_err-refuse-2
read_chord-returns-in_err-refuse-2 t c =
    let told = err_from_is_err_and c.from_residual-in_err-refuse-2.result c.from_residual-in_err-refuse-2.ensures.1 in
    rw (told.1, told.2) (refused_at_once c.in_err-refuse-2.field-0.0 _ (chord_with (line_reading c.args.left) (view c.args.value.now))
    (ap (λ o. o or_else header_fault (view c.args.value.now))
    (sym c.own_fault.ensures ∙ c.in_ok-refuse.ensures.ok) ∙ sym c.header_fault.ensures ∙ c.in_err-refuse-2.ensures.err))
