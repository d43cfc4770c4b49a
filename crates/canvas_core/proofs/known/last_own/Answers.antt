use Rattle.canvas_core.proofs.Books.KnownLines.{own_some, own_none}
use Rattle.canvas_core.proofs.known.last_own.Goals as goal

pub returns-in-Some : goal.returns-in-Some
returns-in-Some c = own_some c.args.tasks.now c.in-Some._others.now c.in-Some.task.now c.in-Some.ensures.cases.0

pub returns-in-None : goal.returns-in-None
returns-in-None c = own_none c.args.tasks.now c.in-None.ensures.cases
