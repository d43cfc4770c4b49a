use Rattle.std.proofs.Common.{refl, ◌∙◌, ◌++◌, map, ap, sym}
use Rattle.canvas_task.proofs.Turns.{put_on, put_all}
use Rattle.canvas_rewrite.specs.FrozenView.{task_in, line_in, end_in}
use Rattle.canvas_semantics.specs.Evaluation.{with_states}
use Rattle.canvas_semantics.specs.Line.{members}
use Rattle.canvas_semantics.specs.States.{rows_from}
use Rattle.canvas_ran.specs.Seen.{into_body, seen}
use Rattle.canvas_ran.specs.steps.SeenLists.{came_behind, tasks_seen, lines_seen}
use Rattle.canvas_rewrite.proofs.PlanLines.{ok_same}
use Rattle.canvas_rewrite.proofs.NameLines.{one_after}
use Rattle.canvas_ran.proofs.Walks.{seen_none, seen_some, seen_group, seen_chord}
use Rattle.canvas_ran.proofs.walk.+lines.Goals as goal

pub push_line-returns-in-None : goal.push_line-returns-in-None
push_line-returns-in-None t c =
    let rows = rows_from 1 c.args.rows.now in
    let tasks = ap (λ ts. tasks_seen rows (map task_in ts) c.args.came.now) (c.deref.ensures.value ∙ c.get.ensures) in
    c.in_ok-behind.ensures.pushed
    ∙ ap (λ ns. c.args.found.now.items ++ ns) (tasks ∙ sym
    (seen_none rows (members c.args.plan.now) c.args.line.now c.args.came.now c.in-None.is))

pub push_line-returns-in-Some : goal.push_line-returns-in-Some
push_line-returns-in-Some t c =
    let rows = rows_from 1 c.args.rows.now in
    let table = members c.args.plan.now in
    let same = c.deref.ensures.value ∙ c.get.ensures in
    let tasks = ap (λ ts. tasks_seen rows (map task_in ts) c.args.came.now) same in
    let behind = c.in_ok-behind.ensures.behind ∙ ap (λ ts. came_behind rows (map task_in ts) c.args.came.now) same in
    let end = ap (λ e. seen rows table (end_in e) c.in_ok-behind.behind) c.deref-in-Some.ensures
    ∙ ap (λ b. seen rows table (end_in c.in-Some.end.value) b) behind in
    ok_same _ _ (c.push_tasks.new.found.items ++ seen rows table
    (end_in c.deref-in-Some.result.now) c.in_ok-behind.behind) _
    (one_after c.args.found.now.items _ _ _ _ c.push_tasks.new.found.items c.in_ok-behind.ensures.pushed tasks end
    ∙ ap (λ ns. c.args.found.now.items ++ ns)
    (sym (seen_some rows table c.args.line.now c.args.came.now c.in-Some.end c.in-Some.is)))
    c.push_end.ensures

pub push_end-returns-in-None : goal.push_end-returns-in-None
push_end-returns-in-None t c =
    let rows = rows_from 1 c.args.rows.now in
    let table = members c.args.plan.now in
    let lines = ap (λ ls. lines_seen rows table (map line_in ls) c.args.came.now)
    (c.deref.ensures.value ∙ c.get.ensures) in
    c.in_ok-push_lines.ensures
    ∙ ap (λ ns. c.args.found.now.items ++ ns) (lines ∙ sym
    (seen_group rows table c.args.end.now c.args.came.now c.in-None.is))

pub push_end-returns-in-Some : goal.push_end-returns-in-Some
push_end-returns-in-Some t c =
    let rows = rows_from 1 c.args.rows.now in
    let table = members c.args.plan.now in
    let lines = ap (λ ls. lines_seen rows table (map line_in ls) c.args.came.now)
    (c.deref.ensures.value ∙ c.get.ensures) in
    let comes = c.into_body-comes.ensures ∙ ap (λ ks. into_body c.args.came.now
    (with_states rows ks)) c.members.ensures.value in
    let body = ap (λ b. seen rows table (line_in c.in-Some.body) b) comes in
    ok_same _ _ (c.push_lines.new.found.items ++ seen rows table (line_in c.in-Some.body) c.into_body-comes.result) _
    (one_after c.args.found.now.items _ _ _ _ c.push_lines.new.found.items c.in_ok-push_lines.ensures lines body
    ∙ ap (λ ns. c.args.found.now.items ++ ns)
    (sym (seen_chord rows table c.args.end.now c.args.came.now c.in-Some.body c.in-Some.is)))
    c.push_line.ensures

pub push_lines-loop-line-preserved : goal.push_lines-loop-line-preserved
push_lines-loop-line-preserved t c =
    put_on (λ ls. lines_seen (rows_from 1 c.args.rows.now) (members c.args.plan.now) (map line_in ls) c.args.came.now)
    c.args.lines.now c.loop-line.line-index c.line-item.result _ c.loop-line.found.items c.push_line.new.found.items _
    c.loop-line-test.true c.line-item.is refl c.loop-line.invariant c.in_ok-push_line.ensures

pub push_lines-returns : goal.push_lines-returns
push_lines-returns t c =
    put_all (λ ls. lines_seen (rows_from 1 c.args.rows.now) (members c.args.plan.now) (map line_in ls) c.args.came.now)
    c.args.lines.now c.loop-line.line-index c.loop-line.found.items _ c.loop-line-test.false refl c.loop-line.invariant
