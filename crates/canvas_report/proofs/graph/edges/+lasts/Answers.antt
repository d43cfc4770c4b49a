use Rattle.std.proofs.Common.{List, ◌∙◌, ◌++◌, ◌∷◌, [], ◌-◌, map, ap, sym, refl, slice_get, length, append-nil}
use Rattle.canvas_task.proofs.Turns.{put_on, put_all}
use Rattle.canvas_rewrite.specs.FrozenView.{line_in, end_in}
use Rattle.canvas_rewrite.specs.declared.frozen.FrozenLine.{FrozenLine, out-FrozenLine}
use Rattle.canvas_rewrite.proofs.PlanLines.{in_chord, ok_same, ends_last, ends_never}
use Rattle.canvas_rewrite.proofs.NameLines.{one_after}
use Rattle.canvas_report.specs.Ends.{lasts}
use Rattle.canvas_report.specs.steps.EdgeLists.{lines_lasts}
use Rattle.canvas_report.proofs.EdgeParts.{group_lasts, number_is, end_lasts, lasts_some, lasts_none}
use Rattle.canvas_report.proofs.graph.edges.+lasts.Goals as goal

pub push_member_lasts-returns : goal.push_member_lasts-returns
push_member_lasts-returns t c =
    ok_same _ _ (c.push_point.new.nodes.items ++ lines_lasts (map line_in c.deref.result.now)) _
    (one_after c.args.nodes.now.items _ _ _ _ c.push_point.new.nodes.items c.in_ok-push_point.ensures refl
    (ap (λ ls. lines_lasts (map line_in ls)) (c.deref.ensures.value ∙ c.get.ensures))
    ∙ ap (λ ns. c.args.nodes.now.items ++ ns) (sym (end_lasts c.args.end.now)))
    c.push_all_lasts.ensures

pub push_lasts-returns-in-Some : goal.push_lasts-returns-in-Some
push_lasts-returns-in-Some t c =
    ok_same _ _ _ _ (ap (λ ns. c.args.nodes.now.items ++ ns) (ap (λ e. lasts (end_in e)) c.deref.ensures
    ∙ sym (lasts_some c.args.line.now c.in-Some.end c.in-Some.is))) c.push_end_lasts.ensures

pub push_lasts-returns-in_ok-push-in-Some-last : goal.push_lasts-returns-in_ok-push-in-Some-last
push_lasts-returns-in_ok-push-in-Some-last t c =
    let tasks = c.deref-in-None.ensures.value ∙ c.get.ensures in
    c.in_ok-push-in-Some-last.ensures.items
    ∙ ap (λ n. c.args.nodes.now.items ++ n ∷ []) (c.node_of.ensures ∙ number_is c.in-Some-last.task.now)
    ∙ ap (λ ns. c.args.nodes.now.items ++ ns) (sym (lasts_none c.args.line.now _ c.in-None.is
    (ends_last (out-FrozenLine c.args.line.now).tasks c.in-Some-last.task.now (c.in-Some-last.ensures.value ∙ ap (λ ts. slice_get ts (length ts - 1)) tasks))))

pub push_lasts-returns-in-None-last : goal.push_lasts-returns-in-None-last
push_lasts-returns-in-None-last t c =
    let tasks = c.deref-in-None.ensures.value ∙ c.get.ensures in
    sym (ap (λ ns. c.args.nodes.now.items ++ ns) (lasts_none c.args.line.now _ c.in-None.is
    (ends_never (out-FrozenLine c.args.line.now).tasks (c.in-None-last.ensures.value ∙ ap (λ ts. slice_get ts (length ts - 1)) tasks)))
    ∙ append-nil c.args.nodes.now.items)

pub push_all_lasts-loop-line-init : goal.push_all_lasts-loop-line-init
push_all_lasts-loop-line-init t c = refl

pub push_all_lasts-loop-line-preserved : goal.push_all_lasts-loop-line-preserved
push_all_lasts-loop-line-preserved t c =
    put_on (λ (ls : List FrozenLine). lines_lasts (map line_in ls)) c.args.lines.now c.loop-line.line-index c.line-item.result _ c.loop-line.nodes.items _ _
    c.loop-line-test.true c.line-item.is refl c.loop-line.invariant c.in_ok-push_lasts.ensures

pub push_all_lasts-returns : goal.push_all_lasts-returns
push_all_lasts-returns t c =
    put_all (λ (ls : List FrozenLine). lines_lasts (map line_in ls)) c.args.lines.now c.loop-line.line-index c.loop-line.nodes.items _
    c.loop-line-test.false refl c.loop-line.invariant

pub push_end_lasts-returns-in-Some : goal.push_end_lasts-returns-in-Some
push_end_lasts-returns-in-Some t c =
    ok_same _ _ _ _ (ap (λ x. c.args.nodes.now.items ++ lasts x) (sym (in_chord c.args.end.now c.in-Some.body c.in-Some.is))) c.push_lasts.ensures

pub push_end_lasts-returns-in-None : goal.push_end_lasts-returns-in-None
push_end_lasts-returns-in-None t c =
    ok_same _ _ _ _ (ap (λ ns. c.args.nodes.now.items ++ ns) (sym (group_lasts c.args.end.now c.in-None.is))) c.push_member_lasts.ensures
