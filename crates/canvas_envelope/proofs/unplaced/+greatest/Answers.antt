use Rattle.std.proofs.Common.{map, max, ap, ap₂, sym, ◌∙◌}
use Rattle.canvas_rewrite.specs.FrozenView.{p_tasks_of, p_task_view}
use Rattle.canvas_envelope.specs.Unplaced.{greatest, greatest_in}
use Rattle.canvas_envelope.proofs.Seen.{task_seen}
use Rattle.canvas_envelope.proofs.unplaced.+greatest.Goals as goal

pub greatest-returns : goal.greatest-returns
greatest-returns t c =
    let of_links = c.greatest_in.ensures ∙ ap (λ ts. greatest_in (p_tasks_of (map p_task_view ts))) (c.deref.ensures.value ∙ c.get.ensures) in
    let of_errbacks = c.greatest_in-2.ensures ∙ ap (λ ts. greatest_in (p_tasks_of (map p_task_view ts))) (c.deref-2.ensures.value ∙ c.get-2.ensures) in
    c.max.ensures ∙ ap₂ max c.get-3.ensures.value (c.max-callbacks.ensures ∙ ap₂ max of_links of_errbacks)
    ∙ sym (ap greatest (task_seen c.args.task.now))
