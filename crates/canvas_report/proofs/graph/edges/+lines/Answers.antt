use Rattle.std.proofs.Common.{List, ◌∙◌, ◌++◌, None, map, ap, sym, refl, append_assoc}
use Rattle.canvas_task.proofs.Turns.{put_on, put_all}
use Rattle.canvas_rewrite.specs.declared.frozen.FrozenEnd.{out-FrozenEnd}
use Rattle.canvas_rewrite.specs.declared.frozen.FrozenLine.{FrozenLine}
use Rattle.canvas_rewrite.specs.FrozenView.{task_in, line_in, end_in}
use Rattle.canvas_rewrite.proofs.PlanLines.{ok_same}
use Rattle.canvas_rewrite.proofs.NameLines.{one_after}
use Rattle.canvas_report.specs.Ends.{firsts, member_lasts}
use Rattle.canvas_report.specs.Picture.{to_body, line_edges}
use Rattle.canvas_report.specs.steps.EdgeLists.{tasks_edges, last_node, lines_edges}
use Rattle.canvas_report.proofs.EdgeParts.{line_none, line_some, group_edges, chord_edges}
use Rattle.canvas_report.proofs.graph.edges.+lines.Goals as goal

pub push_line-returns-in-None : goal.push_line-returns-in-None
push_line-returns-in-None t c =
    let tasks = ap (λ ts. tasks_edges None (map task_in ts)) (c.deref.ensures.value ∙ c.get.ensures) in
    c.in_ok-before.ensures.pushed ∙ ap (λ es. c.args.edges.now.items ++ es) (tasks ∙ sym (line_none c.args.line.now c.in-None.is))

pub push_line-returns-in-Some : goal.push_line-returns-in-Some
push_line-returns-in-Some t c =
    let same = c.deref.ensures.value ∙ c.get.ensures in
    let tasks = ap (λ ts. tasks_edges None (map task_in ts)) same in
    let before = c.in_ok-before.ensures.last ∙ ap (λ ts. last_node None (map task_in ts)) same in
    let end = ap (λ e. line_edges c.in_ok-before.before (end_in e)) c.deref-in-Some.ensures ∙ ap (λ b. line_edges b (end_in c.in-Some.end.value)) before in
    ok_same _ _ (c.push_tasks.new.edges.items ++ line_edges c.in_ok-before.before (end_in c.deref-in-Some.result.now)) _
    (one_after c.args.edges.now.items _ _ _ _ c.push_tasks.new.edges.items c.in_ok-before.ensures.pushed tasks end
    ∙ ap (λ es. c.args.edges.now.items ++ es) (sym (line_some c.args.line.now c.in-Some.end c.in-Some.is)))
    c.push_end.ensures

pub push_end-returns-in-None : goal.push_end-returns-in-None
push_end-returns-in-None t c =
    let lines = ap (λ ls. lines_edges (map line_in ls)) (c.deref.ensures.value ∙ c.get.ensures) in
    c.in_ok-push_lines.ensures
    ∙ one_after c.args.edges.now.items _ _ _ _ c.push_before.new.edges.items c.in_ok-push_before.ensures refl lines
    ∙ ap (λ es. c.args.edges.now.items ++ es) (sym (group_edges c.args.before.now c.args.end.now c.in-None.is))

pub push_end-returns-in_ok-push_to_body-in-Some : goal.push_end-returns-in_ok-push_to_body-in-Some
push_end-returns-in_ok-push_to_body-in-Some t c =
    let lines = ap (λ ls. lines_edges (map line_in ls)) (c.deref.ensures.value ∙ c.get.ensures) in
    let both = c.in_ok-push_lines.ensures ∙ one_after c.args.edges.now.items _ _ _ _ c.push_before.new.edges.items c.in_ok-push_before.ensures refl lines in
    let body = c.in_ok-push_to_body-in-Some.ensures in
    ok_same _ _ (c.push_to_body.new.edges.items ++ line_edges None (line_in c.in-Some.body)) _
    (ap (λ es. es ++ line_edges None (line_in c.in-Some.body)) body
    ∙ append_assoc c.push_lines.new.edges.items
    (to_body (out-FrozenEnd c.args.end.now).group (member_lasts (end_in c.args.end.now)) (firsts (line_in c.in-Some.body)))
    (line_edges None (line_in c.in-Some.body))
    ∙ one_after c.args.edges.now.items _ _ _ _ c.push_lines.new.edges.items both refl refl
    ∙ ap (λ es. c.args.edges.now.items ++ es) (sym (chord_edges c.args.before.now c.args.end.now c.in-Some.body c.in-Some.is)))
    c.push_line.ensures

pub push_lines-loop-line-init : goal.push_lines-loop-line-init
push_lines-loop-line-init t c = refl

pub push_lines-loop-line-preserved : goal.push_lines-loop-line-preserved
push_lines-loop-line-preserved t c =
    put_on (λ (ls : List FrozenLine). lines_edges (map line_in ls)) c.args.lines.now c.loop-line.line-index c.line-item.result _ c.loop-line.edges.items _ _
    c.loop-line-test.true c.line-item.is refl c.loop-line.invariant c.in_ok-push_line.ensures

pub push_lines-returns : goal.push_lines-returns
push_lines-returns t c =
    put_all (λ (ls : List FrozenLine). lines_edges (map line_in ls)) c.args.lines.now c.loop-line.line-index c.loop-line.edges.items _
    c.loop-line-test.false refl c.loop-line.invariant
