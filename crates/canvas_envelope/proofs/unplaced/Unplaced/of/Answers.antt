use Rattle.std.proofs.Common.{◌∙◌, arith, map, sym, ap}
use Rattle.std.proofs.lemmas.List.{length-take, take-map}
use Rattle.canvas_rewrite.specs.FrozenView.{p_tasks_of, p_task_view}
use Rattle.canvas_envelope.specs.Unplaced.{greatest_in}
use Rattle.canvas_envelope.proofs.FirstTasks.{first_of, no_more}
use Rattle.canvas_envelope.proofs.unplaced.Unplaced.of.Goals as goal

pub slice_bounds-greatest_in-end : goal.slice_bounds-greatest_in-end
slice_bounds-greatest_in-end c =
    omega (arith, length-take c.how_many-count.result c.args.tasks.now, no_more p_task_view c.how_many-count.result c.args.tasks.now c.how_many-count.ensures)

pub returns-clause-first : goal.returns-clause-first
returns-clause-first c end =
    first_of (record { count = c.how_many-count.result; greatest = c.greatest_in.result }) (map p_task_view c.args.tasks.now) end c.how_many-count.ensures
    (c.greatest_in.ensures ∙ ap (λ ts. greatest_in (p_tasks_of ts)) (sym (take-map p_task_view c.how_many-count.result c.args.tasks.now)))
