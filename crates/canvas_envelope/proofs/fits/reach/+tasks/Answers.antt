use Rattle.std.proofs.Common.{map, max, ap, ap₂, sym, ◌∙◌}
use Rattle.canvas_values.specs.steps.LineReach.{capped, above}
use Rattle.canvas_rewrite.specs.FrozenView.{p_tasks_of, p_task_view}
use Rattle.canvas_envelope.specs.Fits.{tasks_reach, greatest_reach}
use Rattle.canvas_envelope.proofs.ReachLemmas.{of_task, of_chord, of_group, of_some, of_last}
use Rattle.canvas_envelope.proofs.Seen.{line_empty}
use Rattle.canvas_envelope.proofs.fits.reach.+tasks.Goals as goal

pub end_reach-returns-in-Some : goal.end_reach-returns-in-Some
end_reach-returns-in-Some t c =
    c.above.ensures ∙ ap above c.max.ensures
    ∙ of_chord c.args.end.now c.in-Some.body c.in-Some.is c.args.carried _ _ c.deref.result.now
    (c.deref.ensures.value ∙ c.get.ensures) c.line_reach-following.ensures c.members_reach.ensures

pub end_reach-returns-in-None : goal.end_reach-returns-in-None
end_reach-returns-in-None t c =
    c.above-in-None.ensures ∙ of_group c.args.end.now c.in-None.is c.args.carried _ c.deref-in-None.result.now
    (c.deref-in-None.ensures.value ∙ c.get-in-None.ensures) c.members_reach-in-None.ensures

pub greatest-returns-in-Some : goal.greatest-returns-in-Some
greatest-returns-in-Some t c =
    c.max.ensures ∙ of_some c.args.line.now c.in-Some.end c.in-Some.is c.args.carried _ _ _ _
    (c.deref.ensures.value ∙ c.get.ensures) c.deref-in-Some.ensures c.tasks_reach.ensures c.end_reach.ensures

pub greatest-returns-in-Some-split_last : goal.greatest-returns-in-Some-split_last
greatest-returns-in-Some-split_last t c =
    let tasks = sym (c.deref-in-None.ensures.value ∙ c.get-in-None.ensures) ∙ c.in-Some-split_last.ensures.cases.0 in
    c.max-in-Some-split_last.ensures
    ∙ of_last c.args.line.now c.in-None.is c.args.carried _ _ _ _ tasks c.tasks_reach-in-Some-split_last.ensures c.task_reach.ensures

pub greatest-returns-in-None-split_last : goal.greatest-returns-in-None-split_last
greatest-returns-in-None-split_last t c =
    sym (ap (λ l. capped (greatest_reach c.args.carried l))
    (line_empty c.args.line.now c.in-None.is c.deref-in-None.result.now
    (c.deref-in-None.ensures.value ∙ c.get-in-None.ensures) c.in-None-split_last.ensures.cases))

pub task_reach-returns : goal.task_reach-returns
task_reach-returns t c =
    let of_links = c.tasks_reach.ensures ∙ ap (λ ts. capped (tasks_reach (p_tasks_of (map p_task_view ts)))) (c.deref.ensures.value ∙ c.get.ensures) in
    let of_errbacks = c.tasks_reach-2.ensures ∙ ap (λ ts. capped (tasks_reach (p_tasks_of (map p_task_view ts)))) (c.deref-2.ensures.value ∙ c.get-2.ensures) in
    c.above.ensures ∙ ap above (c.max-2.ensures ∙ ap₂ max c.max-callbacks.ensures c.max.ensures)
    ∙ of_task c.args.task.now c.args.carried _ _ _ of_links of_errbacks c.place_reach.ensures
