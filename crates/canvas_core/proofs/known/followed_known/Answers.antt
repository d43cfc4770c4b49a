use Rattle.std.proofs.Common.{◌∙◌, sym, ap}
use Rattle.canvas_envelope.specs.steps.Lines.{line_by}
use Rattle.canvas_runs.specs.Book.{message_known}
use Rattle.canvas_core.proofs.Books.KnownFollowed as books
use Rattle.canvas_core.proofs.known.followed_known.Goals as goal

pub returns-then-not-message_known : goal.returns-then-not-message_known
returns-then-not-message_known g c =
    let book = g.B.Book.book c.args.book.now in
    let m = c.followed.inside in
    books.first_false _ _ _ _
    (books.followed_known book m.message m.tasks.items m.tail 0 c.followed.invariant.2 tt ∙ ap (message_known book) c.followed.view_is)
    (sym c.message_known.ensures ∙ c.if-not-message_known.true)

pub returns-then-queued_known : goal.returns-then-queued_known
returns-then-queued_known g c =
    let book = g.B.Book.book c.args.book.now in
    let m = c.followed.inside in
    let whole = books.followed_known book m.message m.tasks.items m.tail c.sure-start.result c.followed.invariant.2
    (c.sure-start.ensures (line_by m.tasks.items m.tail) c.followed.invariant.1.unplaced) ∙ ap (message_known book) c.followed.view_is in
    c.tail_known.ensures
    ∙ books.both_true _ _ _ _ whole (sym c.message_known.ensures ∙ c.if-not-message_known.false) (sym c.queued_known.ensures ∙ c.if-queued_known.true)

pub returns-else-queued_known : goal.returns-else-queued_known
returns-else-queued_known g c =
    let book = g.B.Book.book c.args.book.now in
    let m = c.followed.inside in
    let whole = books.followed_known book m.message m.tasks.items m.tail c.sure-start.result c.followed.invariant.2
    (c.sure-start.ensures (line_by m.tasks.items m.tail) c.followed.invariant.1.unplaced) ∙ ap (message_known book) c.followed.view_is in
    c.if-queued_known.false
    ∙ books.next_false _ _ _ _ whole (sym c.message_known.ensures ∙ c.if-not-message_known.false) (sym c.queued_known.ensures ∙ c.if-queued_known.false)
