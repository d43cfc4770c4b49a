use Rattle.std.proofs.Common.{◌-◌, ◌∙◌, Ok, sym, ap, map, subst, arith}
use Rattle.std.proofs.lemmas.Result.{err_from_is_err_and}
use Rattle.canvas_task.specs.Entries.{named}
use Rattle.canvas_values.specs.Answers.{Gives, Fails, unless, in_turn}
use Rattle.canvas_values.specs.Fields.{listed, as_list, object_members, text_of, is_true}
use Rattle.canvas_values.specs.Grammar.{arg_reading, named_reading}
use Rattle.canvas_sig.specs.Datum.{view}
use Rattle.canvas_values.specs.steps.Reading.{task_with, linked_with, task_reading}
use Rattle.canvas_values.specs.SignatureView.{task_view}
use Rattle.canvas_sig.proofs.Level.{task_level_below, none_seen, all_seen, made, next_seen, stops_seen, fails_with, fails_first, fails_behind}
use Rattle.canvas_sig.proofs.Datums.{next_item}
use Rattle.canvas_sig.proofs.reader.+read_task.Goals as goal

pub read_task-returns : goal.read_task-returns
read_task-returns t c =
    made (task_reading c.args.left) (view c.args.members.now.value.now)
    (record { name = c.of.result; args = c.of-2.result; kwargs = c.of-3.result; immutable = c.is_true.result; links = c.of-4.result; errbacks = c.of-5.result })
    (sym (ap (in_turn arg_reading) (c.listed.ensures ∙ ap listed c.requires.args_found)) ∙ c.in_ok-args.ensures ∙ ap Ok (sym c.of-2.ensures))
    (ap (λ d. in_turn named_reading (object_members d)) (sym c.requires.kwargs_found) ∙ c.in_ok-kwargs.ensures ∙ ap Ok (sym c.of-3.ensures))
    (ap (in_turn (task_reading c.args.left)) (sym (c.as_list.ensures ∙ ap as_list c.requires.link_found)) ∙ c.in_ok-links.ensures ∙ ap (λ ts. Ok
    (map task_view ts)) (sym c.of-4.ensures))
    (ap (in_turn (task_reading c.args.left)) (sym (c.as_list-2.ensures ∙ ap as_list c.requires.link_error_found)) ∙ c.in_ok-errbacks.ensures ∙ ap
    (λ ts. Ok (map task_view ts)) (sym c.of-5.ensures))
    (ap text_of (sym c.requires.name_found) ∙ sym c.in_ok-name.ensures ∙ sym c.of.ensures)
    (ap is_true (sym c.requires.flag_found) ∙ sym c.is_true.ensures)

pub read_all_linked-loop-value-preserved : goal.read_all_linked-loop-value-preserved
read_all_linked-loop-value-preserved t c =
    let step = next_item c.args.values.now c.loop-value.value-index c.value-item.result _ (omega (arith, c.loop-value-test.true)) (sym c.value-item.is) in
    c.loop-value.invariant ∙ next_seen task_view
    (task_reading c.args.left) c.loop-value.tasks.items _ c.in_ok-read_linked.field-0 _ _ _ c.in_ok-push.ensures.items c.in_ok-read_linked.ensures step

pub read_all_linked-read_linked-requires : goal.read_all_linked-read_linked-requires
read_all_linked-read_linked-requires t c =
    (omega (arith, c.decreases), tt)

pub read_all_linked-returns-in_err-tasks : goal.read_all_linked-returns-in_err-tasks
read_all_linked-returns-in_err-tasks t c =
    let told = err_from_is_err_and c.from_residual.result c.from_residual.ensures.1 in
    rw (told.1, told.2) tt

pub read_all_linked-returns-in_err-push : goal.read_all_linked-returns-in_err-push
read_all_linked-returns-in_err-push t c =
    let told = err_from_is_err_and c.from_residual-in_err-push.result c.from_residual-in_err-push.ensures.1 in
    rw (told.1, told.2) tt

pub read_all_linked-returns-in_err-read_linked : goal.read_all_linked-returns-in_err-read_linked
read_all_linked-returns-in_err-read_linked t c =
    let step = next_item c.args.values.now c.loop-value.value-index c.value-item.result _ (omega (arith, c.loop-value-test.true)) (sym c.value-item.is) in
    let told = err_from_is_err_and c.from_residual-in_err-read_linked.result c.from_residual-in_err-read_linked.ensures.1 in
    let fault = c.in_err-read_linked.field-0.0 in
    rw (told.1, told.2)
    (subst (λ r. Fails fault r) (sym c.loop-value.invariant)
    (stops_seen task_view (task_reading c.args.left) c.loop-value.tasks.items fault _ _ _ c.in_err-read_linked.ensures step))

pub read_checked_link-read_task-requires : goal.read_checked_link-read_task-requires
read_checked_link-read_task-requires t c =
    (omega (arith, c.decreases), c.requires)

pub read_linked-read_checked_link-requires : goal.read_linked-read_checked_link-requires
read_linked-read_checked_link-requires t c =
    (omega (arith, c.decreases, c.if-left-eq0.false), c.of-members.ensures.found)

pub read_task-read_all_linked-requires : goal.read_task-read_all_linked-requires
read_task-read_all_linked-requires t c =
    (omega (arith, c.decreases), tt)

pub read_task-read_all_linked-requires-2 : goal.read_task-read_all_linked-requires-2
read_task-read_all_linked-requires-2 t c =
    (omega (arith, c.decreases), tt)

pub read_checked_link-returns-in-Some : goal.read_checked_link-returns-in-Some
read_checked_link-returns-in-Some t c =
    fails_with c.in-Some.fault _ (ap (λ o. unless o (task_with (task_reading c.args.left) (view c.args.members.now.value.now)))
    (sym c.first_fault.ensures ∙ c.in-Some.is))

pub read_checked_link-returns-in-None : goal.read_checked_link-returns-in-None
read_checked_link-returns-in-None t c =
    subst (Gives task_view c.read_task.result) (sym (ap (λ o. unless o (task_with (task_reading c.args.left) (view c.args.members.now.value.now)))
    (sym c.first_fault.ensures ∙ c.in-None.is)))
    c.read_task.ensures

pub read_task-returns-in_err-args : goal.read_task-returns-in_err-args
read_task-returns-in_err-args t c =
    let told = err_from_is_err_and c.from_residual.result c.from_residual.ensures.1 in
    let fault = c.in_err-args.field-0.0 in
    rw (told.1, told.2) (fails_first fault _ _ (subst (λ ds. Fails fault (in_turn arg_reading ds)) (c.listed.ensures
    ∙ ap listed c.requires.args_found) c.in_err-args.ensures))

pub read_task-returns-in_err-kwargs : goal.read_task-returns-in_err-kwargs
read_task-returns-in_err-kwargs t c =
    let told = err_from_is_err_and c.from_residual-in_err-kwargs.result c.from_residual-in_err-kwargs.ensures.1 in
    let fault = c.in_err-kwargs.field-0.0 in
    rw (told.1, told.2) (fails_behind fault _ c.in_ok-args.args.items _
    (sym (ap (in_turn arg_reading) (c.listed.ensures ∙ ap listed c.requires.args_found)) ∙ c.in_ok-args.ensures)
    (fails_first fault _ _ (subst (λ d. Fails fault (in_turn named_reading (object_members d))) c.requires.kwargs_found c.in_err-kwargs.ensures)))

pub read_task-returns-in_err-links : goal.read_task-returns-in_err-links
read_task-returns-in_err-links t c =
    let told = err_from_is_err_and c.from_residual-in_err-links.result c.from_residual-in_err-links.ensures.1 in
    let fault = c.in_err-links.field-0.0 in
    rw (told.1, told.2) (fails_behind fault _ c.in_ok-args.args.items _
    (sym (ap (in_turn arg_reading) (c.listed.ensures ∙ ap listed c.requires.args_found)) ∙ c.in_ok-args.ensures)
    (fails_behind fault _ (named c.in_ok-kwargs.kwargs.entries) _
    (ap (λ d. in_turn named_reading (object_members d)) (sym c.requires.kwargs_found) ∙ c.in_ok-kwargs.ensures)
    (fails_first fault _ _ (subst (λ ds. Fails fault (in_turn (task_reading c.args.left) ds)) (c.as_list.ensures
    ∙ ap as_list c.requires.link_found) c.in_err-links.ensures))))

pub read_task-returns-in_err-errbacks : goal.read_task-returns-in_err-errbacks
read_task-returns-in_err-errbacks t c =
    let told = err_from_is_err_and c.from_residual-in_err-errbacks.result c.from_residual-in_err-errbacks.ensures.1 in
    let fault = c.in_err-errbacks.field-0.0 in
    rw (told.1, told.2) (fails_behind fault _ c.in_ok-args.args.items _
    (sym (ap (in_turn arg_reading) (c.listed.ensures ∙ ap listed c.requires.args_found)) ∙ c.in_ok-args.ensures)
    (fails_behind fault _ (named c.in_ok-kwargs.kwargs.entries) _
    (ap (λ d. in_turn named_reading (object_members d)) (sym c.requires.kwargs_found) ∙ c.in_ok-kwargs.ensures)
    (fails_behind fault _ _ _
    (ap (in_turn (task_reading c.args.left)) (sym (c.as_list.ensures ∙ ap as_list c.requires.link_found)) ∙ c.in_ok-links.ensures)
    (fails_first fault _ _ (subst (λ ds. Fails fault (in_turn (task_reading c.args.left) ds)) (c.as_list-2.ensures
    ∙ ap as_list c.requires.link_error_found) c.in_err-errbacks.ensures)))))

pub read_task-returns-in_err-name : goal.read_task-returns-in_err-name
read_task-returns-in_err-name t c =
    let told = err_from_is_err_and c.from_residual-in_err-name.result c.from_residual-in_err-name.ensures.1 in
    rw (told.1, told.2) tt

pub read_all_linked-loop-value-init : goal.read_all_linked-loop-value-init
read_all_linked-loop-value-init t c =
    none_seen task_view (task_reading c.args.left) (map view c.args.values.now) c.in_ok-tasks.tasks.items c.in_ok-tasks.ensures.items

pub read_all_linked-returns : goal.read_all_linked-returns
read_all_linked-returns t c =
    c.loop-value.invariant ∙ all_seen task_view view
    (task_reading c.args.left) c.loop-value.tasks.items c.args.values.now c.loop-value.value-index c.loop-value-test.false

pub read_linked-returns-then-left-eq0 : goal.read_linked-returns-then-left-eq0
read_linked-returns-then-left-eq0 t c =
    ap (λ n. task_reading n (view c.args.value.now)) c.if-left-eq0.true

pub read_linked-returns : goal.read_linked-returns
read_linked-returns t c =
    subst (Gives task_view c.read_checked_link.result)
    (ap (λ v. linked_with (task_reading (c.args.left - 1)) (view v)) c.of-members.ensures.same
    ∙ sym (task_level_below c.args.left (view c.args.value.now) c.if-left-eq0.false))
    c.read_checked_link.ensures
