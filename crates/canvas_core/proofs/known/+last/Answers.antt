use Rattle.std.proofs.Common.{◌∙◌}
use Rattle.canvas_core.proofs.Books.KnownLines.{last_some, last_none}
use Rattle.canvas_core.proofs.known.+last.Goals as goal

pub last_task-returns-in-Some : goal.last_task-returns-in-Some
last_task-returns-in-Some t c =
    c.last_behind.ensures ∙ last_some c.args.line.now c.in-Some.end c.in-Some.is _ _ c.deref.result.now c.last_own.ensures
    (c.deref-in-Some.ensures.value ∙ c.get.ensures) c.deref.ensures

pub last_task-returns-in-None : goal.last_task-returns-in-None
last_task-returns-in-None t c = c.last_own-in-None.ensures ∙ last_none c.args.line.now c.in-None.is _ (c.deref-in-None.ensures.value ∙ c.get-in-None.ensures)
