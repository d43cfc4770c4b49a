use Rattle.canvas_semantics.specs.Line.{count_line}
use Rattle.canvas_celery.specs.steps.Rows.{IsRead}
use Rattle.canvas_celery.proofs.results.collecting.push_rows.Given as goal

abbrev pub invariant-loop-index : goal.invariant-loop-index
invariant-loop-index l =
    IsRead l.run.digits (count_line l.plan) l.text l.rest l.index l.rows.items
