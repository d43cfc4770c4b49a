use Rattle.std.proofs.Common.{◌∙◌, ◌++◌, map, ap, sym, append-nil, slice_get, length, ◌-◌}
use Rattle.canvas_semantics.specs.Line.{ends_of}
use Rattle.canvas_rewrite.specs.FrozenView.{line_in, end_in}
use Rattle.canvas_semantics.specs.steps.Numbering.{lines_ends}
use Rattle.canvas_rewrite.specs.declared.frozen.FrozenLine.{out-FrozenLine}
use Rattle.canvas_rewrite.proofs.PlanLines.{in_none, ends_some, ends_group_end, ends_last, ends_never, ok_same}
use Rattle.canvas_rewrite.proofs.groups.+ends.Goals as goal

pub push_end-returns-in-None : goal.push_end-returns-in-None
push_end-returns-in-None t c =
    ok_same _ _ _ _ (ap (λ es. c.args.ends.now.items ++ es) (ap (λ ls. lines_ends (map line_in ls)) (c.deref.ensures.value ∙ c.get.ensures)
    ∙ sym (ends_group_end c.args.end.now c.in-None.is))) c.push_all.ensures

pub push_ends-returns-in-Some : goal.push_ends-returns-in-Some
push_ends-returns-in-Some t c =
    ok_same _ _ _ _ (ap (λ es. c.args.ends.now.items ++ es) (ap (λ e. ends_of (end_in e)) c.deref.ensures
    ∙ sym (ends_some c.args.line.now c.in-Some.end c.in-Some.is))) c.push_end.ensures

pub push_ends-returns-in_ok-push-in-Some-last : goal.push_ends-returns-in_ok-push-in-Some-last
push_ends-returns-in_ok-push-in-Some-last t c =
    let tasks = c.deref-in-None.ensures.value ∙ c.get.ensures in
    c.in_ok-push-in-Some-last.ensures.items
    ∙ ap (λ es. c.args.ends.now.items ++ es) (sym (ap ends_of (in_none c.args.line.now c.in-None.is)
    ∙ ends_last (out-FrozenLine c.args.line.now).tasks c.in-Some-last.task.now (c.in-Some-last.ensures.value ∙ ap (λ ts. slice_get ts (length ts - 1)) tasks)))

pub push_ends-returns-in-None-last : goal.push_ends-returns-in-None-last
push_ends-returns-in-None-last t c =
    let tasks = c.deref-in-None.ensures.value ∙ c.get.ensures in
    sym (ap (λ es. c.args.ends.now.items ++ es) (ap ends_of (in_none c.args.line.now c.in-None.is)
    ∙ ends_never (out-FrozenLine c.args.line.now).tasks (c.in-None-last.ensures.value ∙ ap (λ ts. slice_get ts (length ts - 1)) tasks))
    ∙ append-nil c.args.ends.now.items)
