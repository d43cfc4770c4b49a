use Rattle.std.proofs.Common.{◌∙◌, ap}
use Rattle.canvas_runs.specs.Book.{message_known}
use Rattle.canvas_core.proofs.Books.Opening.{opens_known, opens_unknown, opens_refused}
use Rattle.canvas_core.proofs.core_run.open.Goals as goal

pub returns-then-message_known-clause-value : goal.returns-then-message_known-clause-value
returns-then-message_known-clause-value g c =
    opens_known (g.B.Book.book c.args.book.now) c.args.letter.now c.in-Ok.message.value c.message_known.result c.in-Ok.ensures.ok
    (c.message_known.ensures ∙ ap (λ m. message_known (g.B.Book.book c.args.book.now) m) c.deref.ensures) c.if-message_known.true

pub returns-else-message_known-clause-value : goal.returns-else-message_known-clause-value
returns-else-message_known-clause-value g c =
    opens_unknown (g.B.Book.book c.args.book.now) c.args.letter.now c.in-Ok.message.value c.message_known.result c.in-Ok.ensures.ok
    (c.message_known.ensures ∙ ap (λ m. message_known (g.B.Book.book c.args.book.now) m) c.deref.ensures) c.if-message_known.false

pub returns-in_default : goal.returns-in_default
returns-in_default g c = record {
  value = opens_refused (g.B.Book.book c.args.book.now) c.args.letter.now c.in-Err.fault (c.in-Err.ensures.err c.in_default.not-Memory);
  message = tt;
  letter = c.open.ensures.letter;
}
