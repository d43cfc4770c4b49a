use Rattle.std.proofs.Common.{◌∙◌, ◌<◌, ◌++◌, length, map, ap, sym, arith, refl, string_bytes, option_to_list, slice_get, Some}
use Rattle.std.specs.List.{filter_map}
use Rattle.canvas_report.proofs.ReportLines.{names_long}
use Rattle.canvas_rewrite.proofs.NamesInOrder.{plan_names}
use Rattle.canvas_semantics.specs.Line.{names, name_of}
use Rattle.canvas_answer.specs.Cases.{changed_object, row_object}
use Rattle.canvas_answer.proofs.Objects.{all_made, found_at, kept, one_more}
use Rattle.canvas_answer.proofs.evaluated.Evaluated.changed_rows.Goals as goal

pub loop-place-preserved : goal.loop-place-preserved
loop-place-preserved c = λ all.
    let h = changed_object c.args.self.now c.args.base.now.told in
    let ns = names c.args.plan.now in
    let place = c.loop-place.place in
    let within : place < length ns = omega (arith, names_long c.args.plan.now, c.tasks-place-end.ensures.value, c.loop-place-test.true) in
    let theirs = all ∙ ap (map (row_object c.args.base.now.told)) (plan_names c.args.plan.now c.tasks-place-end.ensures.planned) in
    one_more (filter_map h) (λ t. option_to_list (h t)) (kept h) ns place
    (map string_bytes c.loop-place.found.items) (map string_bytes c.push_changed.new.found.items) _
    within
    (λ n named.
    let at = ap (λ rows. slice_get rows place) theirs ∙ found_at (row_object c.args.base.now.told) ns place n named
    ∙ ap (λ k. Some (row_object c.args.base.now.told (k, n))) (sym c.task_at.ensures) in
    c.in_ok-push_changed.ensures n c.task_at.ensures (ap (name_of c.args.plan.now) c.task_at.ensures ∙ named) at
    ∙ ap (λ k. map string_bytes c.loop-place.found.items ++ option_to_list (h (k, n))) c.task_at.ensures)
    (c.loop-place.invariant all)

pub returns : goal.returns
returns c = λ all.
    let h = changed_object c.args.self.now c.args.base.now.told in
    let ns = names c.args.plan.now in
    all_made (filter_map h) (λ t. option_to_list (h t)) refl ns c.loop-place.place _ _
    (omega (arith, names_long c.args.plan.now, c.tasks-place-end.ensures.value, c.loop-place-test.false, c.loop-place.auto.place-end))
    (c.loop-place.invariant all)
    ∙ ap (filter_map h) (sym (plan_names c.args.plan.now c.tasks-place-end.ensures.planned))
