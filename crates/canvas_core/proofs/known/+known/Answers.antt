use Rattle.std.proofs.Common.{rules, ap, ◌∙◌}
use Rattle.canvas_envelope.proofs.Seen.{task_seen}
use Rattle.canvas_core.proofs.Books.FirstKnown.{behind_none, behind_some}
use Rattle.canvas_core.proofs.Books.KnownLines.{known_some, chord_known, and_then, and_else}
use Rattle.canvas_rewrite.specs.FrozenView.{p_end_view}
use Rattle.canvas_runs.specs.Book.{line_known}
use Rattle.canvas_core.proofs.known.+known.Goals as goal

pub task_known-returns-then-tasks_known-2 : goal.task_known-returns-then-tasks_known-2
task_known-returns-then-tasks_known-2 g t c = rw (task_seen c.args.task.now) (search rules)

pub task_known-returns-else-tasks_known-2 : goal.task_known-returns-else-tasks_known-2
task_known-returns-else-tasks_known-2 g t c = rw (task_seen c.args.task.now) (search rules)

pub line_known-returns-in-None : goal.line_known-returns-in-None
line_known-returns-in-None g t c =
    c.known_from-in-None.ensures
    ∙ behind_none (g.B.Book.book c.args.book.now) c.args.line.now c.args.sure _ (c.deref-in-None.ensures.value ∙ c.get-in-None.ensures)
    c.requires c.in-None.is

pub line_known-returns-then-known_from : goal.line_known-returns-then-known_from
line_known-returns-then-known_from g t c =
    and_then c.known_from.result c.end_known.result _ _ _
    (c.known_from.ensures ∙ behind_some (g.B.Book.book c.args.book.now) c.args.line.now c.args.sure _ (c.deref.ensures.value ∙ c.get.ensures)
    c.requires c.in-Some.end c.in-Some.is) c.if-known_from.true
    (c.end_known.ensures ∙ ap (λ e. line_known (g.B.Book.book c.args.book.now) (p_end_view e)) c.deref-then-known_from.ensures)
    (known_some (g.B.Book.book c.args.book.now) c.args.line.now c.in-Some.end c.in-Some.is)

pub line_known-returns-else-known_from : goal.line_known-returns-else-known_from
line_known-returns-else-known_from g t c =
    and_else c.known_from.result _ _ _
    (c.known_from.ensures ∙ behind_some (g.B.Book.book c.args.book.now) c.args.line.now c.args.sure _ (c.deref.ensures.value ∙ c.get.ensures)
    c.requires c.in-Some.end c.in-Some.is) c.if-known_from.false
    (known_some (g.B.Book.book c.args.book.now) c.args.line.now c.in-Some.end c.in-Some.is)

pub end_known-returns-then-members_known : goal.end_known-returns-then-members_known
end_known-returns-then-members_known g t c =
    rw (chord_known (g.B.Book.book c.args.book.now) c.args.end.now c.in-Some.body c.in-Some.is c.as_slice-members.result.now
    (c.as_slice-members.ensures.value ∙ c.get.ensures)) (search rules)

pub end_known-returns-else-members_known : goal.end_known-returns-else-members_known
end_known-returns-else-members_known g t c =
    rw (chord_known (g.B.Book.book c.args.book.now) c.args.end.now c.in-Some.body c.in-Some.is c.as_slice-members.result.now
    (c.as_slice-members.ensures.value ∙ c.get.ensures)) (search rules)
