use Rattle.canvas_celery.proofs.Collected.Lines.{some_line, shorter_after}
use Rattle.canvas_celery.proofs.results.pieces.split_line.Goals as goal

pub returns-clause-line : goal.returns-clause-line
returns-clause-line c =
    rw (c.split_at_byte.ensures.before, c.split_at_byte.ensures.behind) (some_line c.args.text.now c.requires)

pub returns-clause-shorter : goal.returns-clause-shorter
returns-clause-shorter c = rw c.split_at_byte.ensures.behind (shorter_after c.args.text.now c.requires)
