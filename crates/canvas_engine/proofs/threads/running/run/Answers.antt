use Rattle.canvas_engine.proofs.OnThreads.Headlines.{headline_ok}
use Rattle.canvas_engine.proofs.threads.running.run.Goals as goal

pub returns-in-Ok-clause-headline : goal.returns-in-Ok-clause-headline
returns-in-Ok-clause-headline g c =
    headline_ok (g.T.Tasks.behaviour c.args.tasks.now) c.args.plan.now c.args.workers c.run_started.result c.in-Ok.ensures.planned c.run_started.ensures.ok
