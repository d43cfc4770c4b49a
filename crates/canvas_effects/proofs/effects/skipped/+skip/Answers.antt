use Rattle.std.proofs.Common.{◌∙◌, ◌++◌, map, refl, ap, sym}
use Rattle.canvas_task.proofs.Turns.{put_part, put_on, put_all}
use Rattle.canvas_rewrite.specs.FrozenView.{p_line_view}
use Rattle.canvas_rewrite.proofs.PlanLines.{ok_same}
use Rattle.canvas_effects.specs.steps.Walks.{skipped, all_skipped}
use Rattle.canvas_effects.proofs.Walked.{skipped_line, skipped_rest_none, skipped_rest_some, skipped_end_none, skipped_end_some}
use Rattle.canvas_effects.proofs.effects.skipped.+skip.Goals as goal

pub skip_line-returns : goal.skip_line-returns
skip_line-returns t c =
    ok_same _ _ _ _ (ap (λ xs. c.args.stores.now.items ++ xs)
    (skipped_line c.args.fault.now c.args.line.now c.deref.result.now (c.deref.ensures.value ∙ c.get.ensures))) c.skip_rest.ensures

pub skip_rest-returns-in-Some : goal.skip_rest-returns-in-Some
skip_rest-returns-in-Some t c =
    ok_same _ _ _ _ (put_part _ _ _ _ _ _ c.in_ok-skip_tasks.ensures
    (skipped_rest_some c.args.fault.now c.args.tasks.now c.args.tail.now c.in-Some.end c.in-Some.is c.deref.result.now c.deref.ensures) refl) c.skip_end.ensures

pub skip_rest-returns-in-None : goal.skip_rest-returns-in-None
skip_rest-returns-in-None t c =
    c.in_ok-skip_tasks.ensures
    ∙ ap (λ xs. c.args.stores.now.items ++ xs) (sym (skipped_rest_none c.args.fault.now c.args.tasks.now c.args.tail.now c.in-None.is))

pub skip_end-returns-in-Some : goal.skip_end-returns-in-Some
skip_end-returns-in-Some t c =
    ok_same _ _ _ _ (put_part _ _ _ _ _ _ c.in_ok-skip_lines.ensures
    (skipped_end_some c.args.fault.now c.args.end.now c.in-Some.body c.in-Some.is c.deref.result.now
    (c.deref.ensures.value ∙ c.get.ensures)) refl) c.skip_line.ensures

pub skip_end-returns-in-None : goal.skip_end-returns-in-None
skip_end-returns-in-None t c =
    c.in_ok-skip_lines.ensures
    ∙ ap (λ xs. c.args.stores.now.items ++ xs)
    (sym (skipped_end_none c.args.fault.now c.args.end.now c.in-None.is c.deref.result.now (c.deref.ensures.value ∙ c.get.ensures)))

pub skip_lines-loop-line-init : goal.skip_lines-loop-line-init
skip_lines-loop-line-init t c = refl

pub skip_lines-loop-line-preserved : goal.skip_lines-loop-line-preserved
skip_lines-loop-line-preserved t c =
    put_on (λ ls. all_skipped c.args.fault.now (map p_line_view ls)) c.args.lines.now c.loop-line.line-index c.line-item.result
    (skipped c.args.fault.now (p_line_view c.line-item.result)) _ _ _ c.loop-line-test.true c.line-item.is refl c.loop-line.invariant c.in_ok-skip_line.ensures

pub skip_lines-returns : goal.skip_lines-returns
skip_lines-returns t c =
    put_all (λ ls. all_skipped c.args.fault.now (map p_line_view ls)) c.args.lines.now c.loop-line.line-index _ _
    c.loop-line-test.false refl c.loop-line.invariant
