use Rattle.std.proofs.Common.{sym}
use Rattle.canvas_core.proofs.Books.Opening.{read_so}
use Rattle.canvas_core.proofs.core_run.is_known.Goals as goal

pub returns-clause-value : goal.returns-clause-value
returns-clause-value g c =
    sym (read_so (g.B.Book.book c.args.book.now) c.args.letter.now c.args.followed.now _ c.requires (sym c.followed_known.ensures))
