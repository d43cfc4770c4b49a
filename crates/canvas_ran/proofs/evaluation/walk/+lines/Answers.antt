use Rattle.std.proofs.Common.{◌∙◌, ◌++◌, None, map, ap, sym}
use Rattle.std.specs.Prelude.{option_to_list}
use Rattle.canvas_rewrite.specs.FrozenView.{task_in, line_in, end_in}
use Rattle.canvas_semantics.specs.Evaluation.{group_value}
use Rattle.canvas_rewrite.proofs.PlanLines.{ok_same}
use Rattle.canvas_rewrite.proofs.NameLines.{one_after}
use Rattle.canvas_ran.specs.steps.Flows.{flow_seen}
use Rattle.canvas_ran.specs.steps.Walked.{all_ends, all_states, flow_behind, front_states, last_end, line_ends, line_states}
use Rattle.canvas_ran.proofs.Evaluated.Walks.{states_none, states_some, states_group, states_chord, ends_none, ends_some, ends_group, ends_chord, ok_is}
use Rattle.canvas_ran.proofs.evaluation.walk.+lines.Goals as goal

pub push_line-returns-clause-pushed : goal.push_line-returns-clause-pushed
push_line-returns-clause-pushed g t c =
    let b = g.T.Tasks.behaviour c.args.tasks.now in
    let x = flow_seen c.args.flow in
    let same = c.deref.ensures.value ∙ c.get.ensures in
    ok_is c.push_last.result (c.in_ok-behind.ensures.pushed
    ∙ ap (λ ss. c.args.found.now.items ++ ss) (ap (λ ts. front_states b (map task_in ts) x) same ∙ sym (states_none b c.args.line.now x c.in-None.is)))

pub push_line-returns-clause-ends : goal.push_line-returns-clause-ends
push_line-returns-clause-ends g t c =
    let b = g.T.Tasks.behaviour c.args.tasks.now in
    let x = flow_seen c.args.flow in
    let same = c.deref.ensures.value ∙ c.get.ensures in
    let last = c.in_ok-behind.ensures.last ∙ ap (λ ts. last_end b (map task_in ts) x None) same in
    ok_same _ _ (c.args.ends.now.items ++ option_to_list c.in_ok-behind.last) _
    (ap (λ es. c.args.ends.now.items ++ es) (ap option_to_list last ∙ sym (ends_none b c.args.line.now x c.in-None.is))) c.push_last.ensures

pub push_line-returns-in-Some-clause-pushed : goal.push_line-returns-in-Some-clause-pushed
push_line-returns-in-Some-clause-pushed g t c =
    let b = g.T.Tasks.behaviour c.args.tasks.now in
    let x = flow_seen c.args.flow in
    let same = c.deref.ensures.value ∙ c.get.ensures in
    let tasks = ap (λ ts. front_states b (map task_in ts) x) same in
    let behind = c.in_ok-behind.ensures.behind ∙ ap (λ ts. flow_behind b (map task_in ts) x) same in
    let end = ap (λ e. line_states b (end_in e) (flow_seen c.in_ok-behind.behind)) c.deref-in-Some.ensures
    ∙ ap (λ y. line_states b (end_in c.in-Some.end.value) y) behind in
    ok_same _ _ (c.push_tasks.new.found.items ++ line_states b (end_in c.deref-in-Some.result.now) (flow_seen c.in_ok-behind.behind)) _
    (one_after c.args.found.now.items _ _ _ _ c.push_tasks.new.found.items c.in_ok-behind.ensures.pushed tasks end
    ∙ ap (λ ss. c.args.found.now.items ++ ss) (sym (states_some b c.args.line.now x c.in-Some.end c.in-Some.is)))
    c.push_end.ensures.pushed

pub push_line-returns-in-Some-clause-ends : goal.push_line-returns-in-Some-clause-ends
push_line-returns-in-Some-clause-ends g t c =
    let b = g.T.Tasks.behaviour c.args.tasks.now in
    let x = flow_seen c.args.flow in
    let same = c.deref.ensures.value ∙ c.get.ensures in
    let behind = c.in_ok-behind.ensures.behind ∙ ap (λ ts. flow_behind b (map task_in ts) x) same in
    let end = ap (λ e. line_ends b (end_in e) (flow_seen c.in_ok-behind.behind)) c.deref-in-Some.ensures
    ∙ ap (λ y. line_ends b (end_in c.in-Some.end.value) y) behind in
    ok_same _ _ (c.args.ends.now.items ++ line_ends b (end_in c.deref-in-Some.result.now) (flow_seen c.in_ok-behind.behind)) _
    (ap (λ es. c.args.ends.now.items ++ es) (end ∙ sym (ends_some b c.args.line.now x c.in-Some.end c.in-Some.is)))
    c.push_end.ensures.ends

pub push_end-returns-in-None-clause-pushed : goal.push_end-returns-in-None-clause-pushed
push_end-returns-in-None-clause-pushed g t c =
    let b = g.T.Tasks.behaviour c.args.tasks.now in
    let x = flow_seen c.args.flow.now in
    let lines = ap (λ ls. all_states b (map line_in ls) x) (c.deref-in-None.ensures.value ∙ c.get-in-None.ensures) in
    ok_same _ _ (c.args.found.now.items ++ all_states b (map line_in c.deref-in-None.result.now) x) _
    (ap (λ ss. c.args.found.now.items ++ ss) (lines ∙ sym (states_group b c.args.end.now x c.in-None.is))) c.push_lines-in-None.ensures.pushed

pub push_end-returns-in-None-clause-ends : goal.push_end-returns-in-None-clause-ends
push_end-returns-in-None-clause-ends g t c =
    let b = g.T.Tasks.behaviour c.args.tasks.now in
    let x = flow_seen c.args.flow.now in
    let lines = ap (λ ls. all_ends b (map line_in ls) x) (c.deref-in-None.ensures.value ∙ c.get-in-None.ensures) in
    ok_same _ _ (c.args.ends.now.items ++ all_ends b (map line_in c.deref-in-None.result.now) x) _
    (ap (λ es. c.args.ends.now.items ++ es) (lines ∙ sym (ends_group b c.args.end.now x c.in-None.is))) c.push_lines-in-None.ensures.ends

pub push_end-returns-in_ok-into-in-Some-clause-pushed : goal.push_end-returns-in_ok-into-in-Some-clause-pushed
push_end-returns-in_ok-into-in-Some-clause-pushed g t c =
    let b = g.T.Tasks.behaviour c.args.tasks.now in
    let x = flow_seen c.args.flow.now in
    let same = c.deref.ensures.value ∙ c.get.ensures in
    let lines = ap (λ ls. all_states b (map line_in ls) x) same in
    let own = c.in_ok-push_lines-in-Some.ensures.ends ∙ ap (λ es. es ++ all_ends b (map line_in c.deref.result.now) x) c.new-own.ensures.items
    ∙ ap (λ ls. all_ends b (map line_in ls) x) same in
    let comes = c.in_ok-into-in-Some.ensures ∙ ap (group_value x) (c.deref-in-Some.ensures.value ∙ own) in
    let body = ap (λ y. line_states b (line_in c.in-Some.body) y) comes in
    ok_same _ _ (c.push_lines.new.found.items ++ line_states b (line_in c.in-Some.body) (flow_seen c.in_ok-into-in-Some.into)) _
    (one_after c.args.found.now.items _ _ _ _ c.push_lines.new.found.items c.in_ok-push_lines-in-Some.ensures.pushed lines body
    ∙ ap (λ ss. c.args.found.now.items ++ ss) (sym (states_chord b c.args.end.now x c.in-Some.body c.in-Some.is)))
    c.push_line.ensures.pushed

pub push_end-returns-in_ok-into-in-Some-clause-ends : goal.push_end-returns-in_ok-into-in-Some-clause-ends
push_end-returns-in_ok-into-in-Some-clause-ends g t c =
    let b = g.T.Tasks.behaviour c.args.tasks.now in
    let x = flow_seen c.args.flow.now in
    let same = c.deref.ensures.value ∙ c.get.ensures in
    let own = c.in_ok-push_lines-in-Some.ensures.ends ∙ ap (λ es. es ++ all_ends b (map line_in c.deref.result.now) x) c.new-own.ensures.items
    ∙ ap (λ ls. all_ends b (map line_in ls) x) same in
    let comes = c.in_ok-into-in-Some.ensures ∙ ap (group_value x) (c.deref-in-Some.ensures.value ∙ own) in
    let body = ap (λ y. line_ends b (line_in c.in-Some.body) y) comes in
    ok_same _ _ (c.args.ends.now.items ++ line_ends b (line_in c.in-Some.body) (flow_seen c.in_ok-into-in-Some.into)) _
    (ap (λ es. c.args.ends.now.items ++ es) (body ∙ sym (ends_chord b c.args.end.now x c.in-Some.body c.in-Some.is)))
    c.push_line.ensures.ends
