use Rattle.std.proofs.Common.{◌≡◌, refl, ◌∙◌, ◌++◌, map, ap, ap₂, subst, sym, IfOk}
use Rattle.canvas_task.proofs.Turns.{put_on, put_all}
use Rattle.canvas_rewrite.specs.FrozenView.{task_in, line_in, end_in}
use Rattle.canvas_ran.specs.Fronts.{line_end, or_else}
use Rattle.canvas_ran.specs.steps.FrontLists.{lines_ends, tasks_end}
use Rattle.canvas_ran.proofs.Called.Walks.{end_none, end_some, end_group, end_chord}
use Rattle.canvas_ran.proofs.calls.ends.+lines.Goals as goal

pub line_end-returns-in-None : goal.line_end-returns-in-None
line_end-returns-in-None t c =
    let fates = c.args.fates.now in
    c.in_ok-ends.ensures
    ∙ ap (λ ts. tasks_end fates (map task_in ts) c.args.before.items) (c.deref.ensures.value ∙ c.get.ensures)
    ∙ sym (end_none fates c.args.line.now c.args.before.items c.in-None.is)

pub line_end-returns-in-Some : goal.line_end-returns-in-Some
line_end-returns-in-Some t c =
    let fates = c.args.fates.now in
    let ends = c.in_ok-ends.ensures
    ∙ ap (λ ts. tasks_end fates (map task_in ts) c.args.before.items) (c.deref.ensures.value ∙ c.get.ensures) in
    subst (λ ks. IfOk c.tail_end.result (λ e. e.items ≡ ks))
    (ap₂ (λ e ks. line_end fates (end_in e) ks) c.deref-in-Some.ensures ends
    ∙ sym (end_some fates c.args.line.now c.args.before.items c.in-Some.end c.in-Some.is))
    c.tail_end.ensures

pub tail_end-returns-in-None : goal.tail_end-returns-in-None
tail_end-returns-in-None t c =
    let fates = c.args.fates.now in
    let ends = c.in_ok-ends.ensures ∙ ap (λ ls. lines_ends fates (map line_in ls)) (c.deref.ensures.value ∙ c.get.ensures) in
    c.or_else-own.ensures ∙ ap (λ ks. or_else ks c.args.before.items) ends
    ∙ sym (end_group fates c.args.end.now c.args.before.items c.in-None.is)

pub tail_end-returns-in-Some : goal.tail_end-returns-in-Some
tail_end-returns-in-Some t c =
    let fates = c.args.fates.now in
    let ends = c.in_ok-ends.ensures ∙ ap (λ ls. lines_ends fates (map line_in ls)) (c.deref.ensures.value ∙ c.get.ensures) in
    let own = c.or_else-own.ensures ∙ ap (λ ks. or_else ks c.args.before.items) ends in
    subst (λ ks. IfOk c.line_end.result (λ e. e.items ≡ ks))
    (ap (λ ks. line_end fates (line_in c.in-Some.body) ks) own
    ∙ sym (end_chord fates c.args.end.now c.args.before.items c.in-Some.body c.in-Some.is))
    c.line_end.ensures

pub lines_end-loop-line-preserved : goal.lines_end-loop-line-preserved
lines_end-loop-line-preserved t c =
    let fates = c.args.fates.now in
    put_on (λ ls. lines_ends fates (map line_in ls))
    c.args.lines.now c.loop-line.line-index c.line-item.result _ c.loop-line.found.items _ _
    c.loop-line-test.true c.line-item.is refl c.loop-line.invariant
    (c.in_ok-extend_from_slice.ensures.items
    ∙ ap (λ ks. c.loop-line.found.items ++ ks) (c.deref.ensures.value ∙ c.in_ok-ends.ensures
    ∙ ap (λ ks. line_end fates (line_in c.line-item.result) ks) c.new-none.ensures.items))

pub lines_end-returns : goal.lines_end-returns
lines_end-returns t c =
    put_all (λ ls. lines_ends c.args.fates.now (map line_in ls))
    c.args.lines.now c.loop-line.line-index c.loop-line.found.items _ c.loop-line-test.false refl c.loop-line.invariant
