use Rattle.std.proofs.Common.{refl, ◌∙◌, ◌++◌, map, ap, sym, append-nil}
use Rattle.canvas_task.proofs.Turns.{put_on, put_all}
use Rattle.canvas_rewrite.specs.FrozenView.{task_in, line_in, end_in}
use Rattle.canvas_ran.specs.Fronts.{beyond, line_fronts}
use Rattle.canvas_ran.specs.steps.FrontLists.{front_behind, lines_ends, lines_fronts_of, tail_fronts, tasks_fronts_of}
use Rattle.canvas_rewrite.specs.declared.frozen.FrozenLine.{out-FrozenLine}
use Rattle.canvas_rewrite.proofs.PlanLines.{ok_same}
use Rattle.canvas_rewrite.proofs.NameLines.{one_after}
use Rattle.canvas_ran.proofs.Called.Walks.{fronts_tail, fronts_group, fronts_chord}
use Rattle.canvas_ran.proofs.calls.walk.+lines.Goals as goal

pub push_line-returns : goal.push_line-returns
push_line-returns t c =
    let fates = c.args.fates.now in
    let front = c.args.front.now in
    let before = c.args.found.now.items in
    let tail = (out-FrozenLine c.args.line.now).tail in
    let same = c.deref.ensures.value ∙ c.get.ensures in
    let tasks = ap (λ ts. tasks_fronts_of fates (map task_in ts) front) same in
    let behind = c.in_ok-behind.ensures.behind ∙ ap (λ ts. front_behind fates (map task_in ts) front) same in
    ok_same _ _ (c.push_tasks.new.found.items ++ tail_fronts fates tail c.in_ok-behind.behind) _
    (one_after before _ _ _ _ c.push_tasks.new.found.items c.in_ok-behind.ensures.pushed tasks
    (ap (λ f. tail_fronts fates tail f) behind)
    ∙ ap (λ ns. before ++ ns) (sym (fronts_tail fates c.args.line.now front _ refl)))
    c.push_tail.ensures

pub push_tail-returns-in-None : goal.push_tail-returns-in-None
push_tail-returns-in-None t c =
    let before = c.args.found.now.items in
    sym (append-nil before) ∙ ap (λ x. before ++ tail_fronts c.args.fates.now x c.args.front.now) (sym c.in-None.is)

pub push_tail-returns-in-Some : goal.push_tail-returns-in-Some
push_tail-returns-in-Some t c =
    let fates = c.args.fates.now in
    let front = c.args.front.now in
    let before = c.args.found.now.items in
    ok_same _ _ (before ++ line_fronts fates (end_in c.deref.result.now) front) _
    (ap (λ ns. before ++ ns) (ap (λ e. line_fronts fates (end_in e) front) c.deref.ensures
    ∙ ap (λ x. tail_fronts fates x front) (sym c.in-Some.is)))
    c.push_end.ensures

pub push_end-returns-in-None : goal.push_end-returns-in-None
push_end-returns-in-None t c =
    let fates = c.args.fates.now in
    let lines = ap (λ ls. lines_fronts_of fates (map line_in ls) c.args.front.now)
    (c.deref.ensures.value ∙ c.get.ensures) in
    c.in_ok-push_lines.ensures
    ∙ ap (λ ns. c.args.found.now.items ++ ns) (lines ∙ sym
    (fronts_group fates c.args.end.now c.args.front.now c.in-None.is))

pub push_end-returns-in_ok-beyond-in-Some : goal.push_end-returns-in_ok-beyond-in-Some
push_end-returns-in_ok-beyond-in-Some t c =
    let fates = c.args.fates.now in
    let lines = ap (λ ls. lines_fronts_of fates (map line_in ls) c.args.front.now)
    (c.deref.ensures.value ∙ c.get.ensures) in
    let ends = c.in_ok-lines_end-in-Some.ensures ∙ ap (λ ls. lines_ends fates (map line_in ls)) (c.deref-in-Some.ensures.value ∙ c.get-in-Some.ensures) in
    let comes = c.in_ok-beyond-in-Some.ensures ∙ ap (λ ks. beyond ks c.args.front.now) ends in
    let body = ap (λ b. line_fronts fates (line_in c.in-Some.body) b) comes in
    ok_same _ _ (c.push_lines.new.found.items ++ line_fronts fates (line_in c.in-Some.body) c.in_ok-beyond-in-Some.beyond) _
    (one_after c.args.found.now.items _ _ _ _ c.push_lines.new.found.items c.in_ok-push_lines.ensures lines body
    ∙ ap (λ ns. c.args.found.now.items ++ ns)
    (sym (fronts_chord fates c.args.end.now c.args.front.now c.in-Some.body c.in-Some.is)))
    c.push_line.ensures

pub push_lines-loop-line-preserved : goal.push_lines-loop-line-preserved
push_lines-loop-line-preserved t c =
    put_on (λ ls. lines_fronts_of c.args.fates.now (map line_in ls) c.args.front.now)
    c.args.lines.now c.loop-line.line-index c.line-item.result _ c.loop-line.found.items c.push_line.new.found.items _
    c.loop-line-test.true c.line-item.is refl c.loop-line.invariant c.in_ok-push_line.ensures

pub push_lines-returns : goal.push_lines-returns
push_lines-returns t c =
    put_all (λ ls. lines_fronts_of c.args.fates.now (map line_in ls) c.args.front.now)
    c.args.lines.now c.loop-line.line-index c.loop-line.found.items _ c.loop-line-test.false refl c.loop-line.invariant
