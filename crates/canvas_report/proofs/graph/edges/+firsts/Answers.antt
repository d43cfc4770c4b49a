use Rattle.std.proofs.Common.{List, ◌∙◌, ◌++◌, map, ap, sym, refl, slice_get, append-nil}
use Rattle.canvas_task.proofs.Turns.{put_on, put_all}
use Rattle.canvas_rewrite.specs.declared.frozen.FrozenLine.{FrozenLine}
use Rattle.canvas_rewrite.specs.FrozenView.{line_in, end_in}
use Rattle.canvas_report.specs.Ends.{firsts}
use Rattle.canvas_rewrite.proofs.PlanLines.{ok_same}
use Rattle.canvas_rewrite.proofs.NameLines.{one_after}
use Rattle.canvas_report.specs.steps.EdgeLists.{lines_firsts}
use Rattle.canvas_report.proofs.EdgeParts.{end_firsts, first_pushed, firsts_end, firsts_none}
use Rattle.canvas_report.proofs.graph.edges.+firsts.Goals as goal

pub push_end_firsts-returns : goal.push_end_firsts-returns
push_end_firsts-returns t c =
    ok_same _ _ (c.push_point.new.nodes.items ++ lines_firsts (map line_in c.deref.result.now)) _
    (one_after c.args.nodes.now.items _ _ _ _ c.push_point.new.nodes.items c.in_ok-push_point.ensures refl
    (ap (λ ls. lines_firsts (map line_in ls)) (c.deref.ensures.value ∙ c.get.ensures))
    ∙ ap (λ ns. c.args.nodes.now.items ++ ns) (sym (end_firsts c.args.end.now)))
    c.push_all_firsts.ensures

pub push_firsts-returns-in_ok-push-in-Some : goal.push_firsts-returns-in_ok-push-in-Some
push_firsts-returns-in_ok-push-in-Some t c =
    first_pushed c.args.line.now c.deref.result.now c.in-Some.task.now c.node_of.result c.args.nodes.now.items _ (c.deref.ensures.value ∙ c.get.ensures)
    c.in-Some.ensures.value c.node_of.ensures c.in_ok-push-in-Some.ensures.items

pub push_firsts-returns-in-Some-tail : goal.push_firsts-returns-in-Some-tail
push_firsts-returns-in-Some-tail t c =
    let tasks = ap (λ ts. slice_get ts 0) (c.deref.ensures.value ∙ c.get.ensures) in
    ok_same _ _ _ _
    (ap (λ ns. c.args.nodes.now.items ++ ns) (ap (λ e. firsts (end_in e)) c.deref-in-Some-tail.ensures
    ∙ sym (firsts_end c.args.line.now c.in-Some-tail.end (c.in-None.ensures.value ∙ tasks) c.in-Some-tail.is)))
    c.push_end_firsts.ensures

pub push_firsts-returns-in-None-tail : goal.push_firsts-returns-in-None-tail
push_firsts-returns-in-None-tail t c =
    let tasks = ap (λ ts. slice_get ts 0) (c.deref.ensures.value ∙ c.get.ensures) in
    sym (ap (λ ns. c.args.nodes.now.items ++ ns) (firsts_none c.args.line.now (c.in-None.ensures.value ∙ tasks) c.in-None-tail.is)
    ∙ append-nil c.args.nodes.now.items)

pub push_all_firsts-loop-line-init : goal.push_all_firsts-loop-line-init
push_all_firsts-loop-line-init t c = refl

pub push_all_firsts-loop-line-preserved : goal.push_all_firsts-loop-line-preserved
push_all_firsts-loop-line-preserved t c =
    put_on (λ (ls : List FrozenLine). lines_firsts (map line_in ls)) c.args.lines.now c.loop-line.line-index c.line-item.result _ c.loop-line.nodes.items _ _
    c.loop-line-test.true c.line-item.is refl c.loop-line.invariant c.in_ok-push_firsts.ensures

pub push_all_firsts-returns : goal.push_all_firsts-returns
push_all_firsts-returns t c =
    put_all (λ (ls : List FrozenLine). lines_firsts (map line_in ls)) c.args.lines.now c.loop-line.line-index c.loop-line.nodes.items _
    c.loop-line-test.false refl c.loop-line.invariant
