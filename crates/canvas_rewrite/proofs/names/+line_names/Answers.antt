use Rattle.std.proofs.Common.{◌∙◌, ◌++◌, map, ap, sym}
use Rattle.canvas_semantics.specs.Line.{names}
use Rattle.canvas_rewrite.specs.FrozenView.{task_in, line_in, end_in}
use Rattle.canvas_semantics.specs.steps.Numbering.{tasks_all_names, lines_all_names}
use Rattle.canvas_rewrite.proofs.PlanLines.{ok_same}
use Rattle.canvas_rewrite.proofs.NameLines.{named_none, named_some, named_group, named_chord, one_after}
use Rattle.canvas_rewrite.proofs.names.+line_names.Goals as goal

pub push_names-returns-in-None : goal.push_names-returns-in-None
push_names-returns-in-None t c =
    let tasks = ap (λ ts. tasks_all_names (map task_in ts)) (c.deref.ensures.value ∙ c.get.ensures) in
    c.in_ok-push_tasks.ensures ∙ ap (λ ns. c.args.found.now ++ ns) (tasks ∙ sym (named_none c.args.line.now c.in-None.is))

pub push_names-returns-in-Some : goal.push_names-returns-in-Some
push_names-returns-in-Some t c =
    let tasks = ap (λ ts. tasks_all_names (map task_in ts)) (c.deref.ensures.value ∙ c.get.ensures) in
    let end = ap (λ e. names (end_in e)) c.deref-in-Some.ensures in
    ok_same _ _ (c.push_tasks.new.found ++ names (end_in c.deref-in-Some.result.now)) _
    (one_after c.args.found.now _ _ _ _ c.push_tasks.new.found c.in_ok-push_tasks.ensures tasks end
    ∙ ap (λ ns. c.args.found.now ++ ns) (sym (named_some c.args.line.now c.in-Some.end c.in-Some.is)))
    c.push_end.ensures

pub push_end-returns-in-None : goal.push_end-returns-in-None
push_end-returns-in-None t c =
    let members = ap (λ ls. lines_all_names (map line_in ls)) (c.deref.ensures.value ∙ c.get.ensures) in
    c.in_ok-push_lines.ensures ∙ ap (λ ns. c.args.found.now ++ ns) (members ∙ sym (named_group c.args.end.now c.in-None.is))

pub push_end-returns-in-Some : goal.push_end-returns-in-Some
push_end-returns-in-Some t c =
    let members = ap (λ ls. lines_all_names (map line_in ls)) (c.deref.ensures.value ∙ c.get.ensures) in
    ok_same _ _ (c.push_lines.new.found ++ names (line_in c.in-Some.body)) _
    (one_after c.args.found.now _ _ _ _ c.push_lines.new.found c.in_ok-push_lines.ensures members (λ _. names (line_in c.in-Some.body))
    ∙ ap (λ ns. c.args.found.now ++ ns) (sym (named_chord c.args.end.now c.in-Some.body c.in-Some.is)))
    c.push_names.ensures
