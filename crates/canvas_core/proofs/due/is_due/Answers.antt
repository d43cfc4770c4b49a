use Rattle.std.proofs.Common.{◌∙◌, sym}
use Rattle.canvas_core.proofs.Books.Dues.{some_due, none_due}
use Rattle.canvas_core.proofs.due.is_due.Goals as goal

pub returns-in-Some : goal.returns-in-Some
returns-in-Some c = c.eq.ensures ∙ sym (some_due c.args.task c.args.script.now c.in-Some.part c.in-Some.is)

pub returns-in-None : goal.returns-in-None
returns-in-None c = sym (none_due c.args.task c.args.script.now c.in-None.is)
