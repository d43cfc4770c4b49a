use Rattle.std.proofs.Common.{◌≡◌, ◌∙◌, ◌<◌, ◌+◌, ◌++◌, ◌∷◌, [], length, map, ap, sym, arith, refl, string_bytes}
use Rattle.std.proofs.lemmas.List.{map-append}
use Rattle.canvas_report.proofs.ReportLines.{names_long}
use Rattle.canvas_report.specs.steps.ReportRows.{line_if}
use Rattle.canvas_rewrite.proofs.NamesInOrder.{plan_names}
use Rattle.canvas_semantics.specs.Line.{names, name_of}
use Rattle.canvas_answer.specs.Cases.{row_object, told_line, without_end}
use Rattle.canvas_answer.proofs.Objects.{all_made, mapped, one_more}
use Rattle.canvas_answer.proofs.evaluated.Evaluated.all_rows.Goals as goal

pub loop-index-preserved : goal.loop-index-preserved
loop-index-preserved c =
    let e = c.args.self.now in
    let ns = names c.args.plan.now in
    let before = c.loop-index.rows.items in
    let row = c.in_ok-row.field-0 in
    let within : c.loop-index.index < length ns = omega (arith, names_long c.args.plan.now, c.tasks-index-end.ensures.value, c.loop-index-test.true) in
    let added : map string_bytes c.push.new.self.items ≡ map string_bytes before ++ string_bytes row ∷ [] =
    ap (map string_bytes) c.in_ok-push.ensures.items ∙ map-append string_bytes before (row ∷ []) in
    one_more (map (row_object e)) (λ t. row_object e t ∷ []) (mapped (row_object e)) ns c.loop-index.index
    (map string_bytes before) (map string_bytes c.push.new.self.items) _
    within
    (λ n named. added
    ∙ ap (λ t. map string_bytes before ++ t ∷ [])
    (c.in_ok-row.ensures ∙ ap (λ k. without_end (line_if (told_line e) k (name_of c.args.plan.now k))) c.task_at.ensures
    ∙ ap (λ o. without_end (line_if (told_line e) (c.loop-index.index + 1) o)) named))
    c.loop-index.invariant

pub returns : goal.returns
returns c =
    let e = c.args.self.now in
    let ns = names c.args.plan.now in
    all_made (map (row_object e)) (λ t. row_object e t ∷ []) refl ns c.loop-index.index _ _
    (omega (arith, names_long c.args.plan.now, c.tasks-index-end.ensures.value, c.loop-index-test.false, c.loop-index.auto.index-end)) c.loop-index.invariant
    ∙ ap (map (row_object e)) (sym (plan_names c.args.plan.now c.tasks-index-end.ensures.planned))
