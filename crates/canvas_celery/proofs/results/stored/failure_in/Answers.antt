use Rattle.canvas_celery.proofs.results.stored.failure_in.Goals as goal

pub returns-in-Some : goal.returns-in-Some
returns-in-Some c = rw c.in-Some.is c.failure_of.ensures
